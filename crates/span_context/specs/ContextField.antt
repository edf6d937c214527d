-- The fields of a context: where each begins, how many bytes it has, what stands in it, and its name in C.
use Rattle.std.specs.Prelude.{ℕ, ◌≡◌, ◌+◌, List, [], ◌∷◌, ◌++◌, take, drop, codes}
use Rattle.byteorder.specs.Endian.{little_bytes}
use Rattle.span_context.specs.declared.context.Facts.{Facts}
use Rattle.span_context.specs.declared.context_field.ContextField.{ContextField}
use Rattle.span_context.specs.declared.context_field.ContextField.TheVariants.{Text, End, Length, Characters, Flags}
use Rattle.span_context.specs.declared.context_field.ContextField.TheVariants.{Color, LinkLength, Comments, Index}
use Rattle.span_context.specs.declared.context_field.ContextField.TheVariants.{Count, Version, Link, LinkEnd}
use Rattle.span_context.specs.declared.size.Size.{Size}
use Rattle.span_context.specs.declared.size.Size.TheVariants.{Word, Double}
use Rattle.span_context.specs.Context.{text_base, link_base, context_bytes}

abbrev pub offset_of : ContextField → ℕ
offset_of Text = 0
offset_of End = 8
offset_of Length = 16
offset_of Characters = 20
offset_of Flags = 24
offset_of Color = 28
offset_of LinkLength = 32
offset_of Comments = 36
offset_of Index = 40
offset_of Count = 44
offset_of Version = 48
offset_of Link = 56
offset_of LinkEnd = 64

abbrev pub bytes_of : ContextField → ℕ
bytes_of Text = 8
bytes_of End = 8
bytes_of Length = 4
bytes_of Characters = 4
bytes_of Flags = 4
bytes_of Color = 4
bytes_of LinkLength = 4
bytes_of Comments = 4
bytes_of Index = 4
bytes_of Count = 4
bytes_of Version = 8
bytes_of Link = 8
bytes_of LinkEnd = 8

-- the size of the load that reads all of it
abbrev pub size_of : ContextField → Size
size_of Text = Double
size_of End = Double
size_of Length = Word
size_of Characters = Word
size_of Flags = Word
size_of Color = Word
size_of LinkLength = Word
size_of Comments = Word
size_of Index = Word
size_of Count = Word
size_of Version = Double
size_of Link = Double
size_of LinkEnd = Double

abbrev pub name_of : ContextField → List ℕ
name_of Text = codes "text"
name_of End = codes "end"
name_of Length = codes "len"
name_of Characters = codes "characters"
name_of Flags = codes "flags"
name_of Color = codes "color"
name_of LinkLength = codes "link_len"
name_of Comments = codes "comments"
name_of Index = codes "index"
name_of Count = codes "count"
name_of Version = codes "version"
name_of Link = codes "link"
name_of LinkEnd = codes "link_end"

abbrev pub value_of : Facts → ContextField → ℕ
value_of facts Text = text_base
value_of facts End = text_base + facts.text_len
value_of facts Length = facts.text_len
value_of facts Characters = facts.characters
value_of facts Flags = facts.flags
value_of facts Color = facts.color
value_of facts LinkLength = facts.link_len
value_of facts Comments = facts.comments
value_of facts Index = facts.index
value_of facts Count = facts.count
value_of facts Version = facts.version
value_of facts Link = link_base
value_of facts LinkEnd = link_base + facts.link_len

-- the fields by rising offset
abbrev pub every_field : List ContextField
every_field =
    Text ∷ End ∷ Length ∷ Characters ∷ Flags ∷ Color ∷ LinkLength ∷ Comments ∷ Index ∷ Count ∷ Version ∷ Link ∷ LinkEnd
    ∷ []

-- at its offset stand the bytes of its value
abbrev pub StandsIn : Facts → ContextField → Type 0
StandsIn facts field =
    take (bytes_of field) (drop (offset_of field) (context_bytes facts))
    ≡ little_bytes (bytes_of field) (value_of facts field)

-- the bytes of the values of some fields, one after another
unfoldable pub bytes_of_fields : Facts → List ContextField → List ℕ
bytes_of_fields facts [] = []
bytes_of_fields facts (field ∷ rest) =
    little_bytes (bytes_of field) (value_of facts field) ++ bytes_of_fields facts rest
