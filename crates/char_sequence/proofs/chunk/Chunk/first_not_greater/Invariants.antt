use Rattle.std.proofs.Common.{◌≡◌, ℕ, ◌<◌, ◌≤◌, Some}
use Rattle.std.specs.List.{slice_get}
use Rattle.change_ops.specs.Ids.{Less}
use Rattle.char_sequence.specs.declared.sequence.Element.{Element}
use Rattle.char_sequence.proofs.chunk.Chunk.first_not_greater.Given as goal

abbrev pub invariant-loop-index : goal.invariant-loop-index
invariant-loop-index l =
    (i : ℕ) (x : Element) → l.start ≤ i → i < l.index → slice_get l.self-inside.items.items i ≡ Some x → Less l.id x.id
