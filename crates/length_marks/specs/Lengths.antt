-- Fields of the context that say a region's length, or the address of its end: what they give bears the length's name.
use Rattle.std.specs.Prelude.{ℕ, ℤ, ◌+◌, ◌%◌, ◌^◌, nat_eq, if◌then◌else◌, Option, Some, None}
use Rattle.std.specs.Int.{cast_unsigned, w64}
use Rattle.span_context.specs.declared.size.Size.{Size}
use Rattle.span_context.specs.declared.size.Size.TheVariants.{Word, Double}
use Rattle.span_context.specs.declared.context_field.ContextField.TheVariants.{Length, LinkLength}
use Rattle.span_context.specs.ContextField.{offset_of}
use Rattle.bpf_words.specs.declared.instruction.Width.TheVariants.{Full}
use Rattle.abstract_state.specs.declared.region.Region.{Region}
use Rattle.abstract_state.specs.declared.region.Region.TheVariants.{Text, Link}
use Rattle.abstract_state.specs.Lent.{base_of, end_field}
use Rattle.abstract_state.specs.Addresses.{Content, ANumber, InContext, InStack, InRegion}
use Rattle.value_marks.specs.declared.mark.Mark.{Mark}
use Rattle.length_marks.specs.Names.{name_of}

-- the offset in the context of the number that is the region's length
abbrev pub length_field : Region → ℕ
length_field Text = offset_of Length
length_field Link = offset_of LinkLength

-- the mark of the length, and of the address of the end, which is greater by the region's base
abbrev pub length_mark : Region → Mark
length_mark region = record { origin = name_of region; addend = 0; width = Full }

abbrev pub end_mark : Region → Mark
end_mark region = record { origin = name_of region; addend = base_of region; width = Full }

-- what a load of the size gives at an offset in the context
unfoldable pub mark_of_field : Size → ℕ → Option Mark
mark_of_field Word n =
    if nat_eq n (length_field Text) then Some (length_mark Text)
    else (if nat_eq n (length_field Link) then Some (length_mark Link) else None)
mark_of_field Double n =
    if nat_eq n (end_field Text) then Some (end_mark Text)
    else (if nat_eq n (end_field Link) then Some (end_mark Link) else None)
mark_of_field size n = None

-- what it gives at an offset from what a register holds
unfoldable pub mark_at : Size → Option Content → ℤ → Option Mark
mark_at size None offset = None
mark_at size (Some (ANumber a)) offset = None
mark_at size (Some (InContext p)) offset = mark_of_field size ((p + cast_unsigned w64 offset) % 2 ^ 64)
mark_at size (Some (InStack p)) offset = None
mark_at size (Some (InRegion r a)) offset = None
