use Rattle.std.proofs.Common.{◌≡◌, ℕ, ◌+◌, ◌≤◌, List, Some, length}
use Rattle.std.specs.List.{slice_get}
use Rattle.char_sequence.specs.declared.sequence.Element.{Element}
use Rattle.char_sequence.specs.Chunks.{start_of, IsSpot}
use Rattle.char_sequence.proofs.Walking.{IsSoFar}
use Rattle.char_sequence.proofs.chunk_list.past_greater.Given as goal

abbrev pub invariant-loop-position : goal.invariant-loop-position
invariant-loop-position l =
    (start : ℕ) → IsSpot l.chunks l.fn.from.position l.fn.from.at start → IsSoFar l.chunks l.id start (start_of l.chunks l.position + l.at) × ((c : List Element) → slice_get l.chunks l.position ≡ Some c → l.at ≤ length c) × (length l.chunks ≤ l.position → l.at ≡ 0)
