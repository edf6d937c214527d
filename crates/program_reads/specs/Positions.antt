-- The fields of a context that give a span's position.
use Rattle.std.specs.Prelude.{◌≡◌, Bool, true, false, List, [], ◌∷◌, drop}
use Rattle.span_context.specs.declared.context_field.ContextField.{ContextField}
use Rattle.span_context.specs.declared.context_field.ContextField.TheVariants.{Index, Count, Version}
use Rattle.program_reads.specs.declared.reads.Reads.{Reads}

-- those that are marked
unfoldable pub marked : List Bool → List ContextField → List ContextField
marked [] fields = []
marked (mark ∷ marks) [] = []
marked (true ∷ marks) (field ∷ fields) = field ∷ marked marks fields
marked (false ∷ marks) (field ∷ fields) = marked marks fields

-- the span's index, how many spans there are, and the version's number; eight fields stand before them
abbrev pub position_fields : List ContextField
position_fields = Index ∷ Count ∷ Version ∷ []

-- those of them that are listed
abbrev pub positions_in : Reads → List ContextField
positions_in reads = marked (drop 8 reads.fields) position_fields

-- none of them is listed
abbrev pub IsPositionless : Reads → Type 0
IsPositionless reads = positions_in reads ≡ []
