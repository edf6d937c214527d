-- The lines that say what can be read of a span.
use Rattle.std.specs.Prelude.{ℕ, zero, suc, Bool, true, false, List, [], ◌∷◌, ◌++◌, codes}
use Rattle.std.specs.Fmt.{decimal}
use Rattle.std.specs.List.{join_by}
use Rattle.span_context.specs.declared.context_field.ContextField.{ContextField}
use Rattle.span_context.specs.ContextField.{name_of, every_field}
use Rattle.span_context.specs.declared.profile.Profile.{Profile}
use Rattle.span_context.specs.declared.profile.Profile.TheVariants.{One, Two, Three}
use Rattle.program_reads.specs.declared.reads.Reads.{Reads}
use Rattle.program_reads.specs.Positions.{marked, positions_in}

-- what stands before a name, where there is one before it
abbrev pub comma : Bool → List ℕ
comma true = codes ", "
comma false = []

-- their names, with a comma between two
abbrev pub names_text : List ContextField → List ℕ
names_text [] = codes "nothing"
names_text (field ∷ fields) = join_by name_of (codes ", ") (field ∷ fields)

-- count bytes from the first on
abbrev pub bytes_text : ℕ → List ℕ
bytes_text zero = codes "nothing"
bytes_text (suc last) = codes "bytes 0..=" ++ decimal last

abbrev pub fields_line : List Bool → List ℕ
fields_line fields = codes "context: " ++ names_text (marked fields every_field) ++ 10 ∷ []

abbrev pub bytes_line : List ℕ → ℕ → List ℕ
bytes_line name count = name ++ codes ": " ++ bytes_text count ++ 10 ∷ []

-- the link's text is lent in the second profile and the third
abbrev pub link_line : Profile → Reads → List ℕ
link_line One reads = []
link_line Two reads = bytes_line (codes "link") reads.link
link_line Three reads = bytes_line (codes "link") reads.link

-- the spans on which the verdict is found again in the next version: those that change, or all where their positions
-- are read
abbrev pub runs_text : List ContextField → List ℕ
runs_text [] = codes "runs where a span changes"
runs_text (field ∷ fields) =
    codes "runs on every span: it reads " ++ join_by (λ f. codes "the " ++ name_of f) (codes ", ") (field ∷ fields)

abbrev pub runs_line : Reads → List ℕ
runs_line reads = runs_text (positions_in reads) ++ 10 ∷ []

abbrev pub read_lines : Profile → Reads → List ℕ
read_lines profile reads =
    fields_line reads.fields ++ bytes_line (codes "text") reads.text ++ link_line profile reads ++ runs_line reads
