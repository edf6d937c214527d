-- The anchors of a text as one list.
use Rattle.std.specs.Prelude.{List, [], ◌∷◌, ◌++◌, flat_map}
use Rattle.change_ops.specs.declared.operation.Anchor.{Anchor}
use Rattle.change_ops.specs.declared.operation.Anchor.TheVariants.{TextStart, BeforeCharacter, AfterCharacter, TextEnd}
use Rattle.char_sequence.specs.declared.sequence.Element.{Element}

-- the start of the text; for each character in order, hidden ones too, the anchor before it and the one after it; the
-- end
abbrev pub anchors_of : List Element → List Anchor
anchors_of es = TextStart ∷ (flat_map (λ e. BeforeCharacter e.id ∷ AfterCharacter e.id ∷ []) es ++ TextEnd ∷ [])
