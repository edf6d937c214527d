use Rattle.std.proofs.Common.{◌≡◌, ℕ, ◌<◌, Some}
use Rattle.std.specs.List.{slice_get}
use Rattle.change_ops.specs.Ids.{Less}
use Rattle.char_sequence.specs.declared.sequence.Element.{Element}
use Rattle.char_sequence.proofs.chunk.floor_of.Given as goal

abbrev pub invariant-loop-element : goal.invariant-loop-element
invariant-loop-element l =
    (k : ℕ) (e : Element) → k < l.element-index → slice_get l.elements k ≡ Some e → Less e.id l.floor → ⊥
