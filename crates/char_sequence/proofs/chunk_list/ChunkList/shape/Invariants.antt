use Rattle.std.proofs.Common.{◌≡◌, ℕ, ◌<◌, ◌≤◌, ◌⊎◌, List, Some, length}
use Rattle.std.specs.List.{slice_get}
use Rattle.char_sequence.specs.declared.sequence.Element.{Element}
use Rattle.char_sequence.proofs.chunk_list.ChunkList.shape.Given as goal

abbrev pub invariant-loop-position : goal.invariant-loop-position
invariant-loop-position l =
    (l.longest ≤ 64) × ((i : ℕ) (c : List Element) → i < l.position → slice_get l.self-inside.chunks.items i ≡ Some c → (0 < length c) × (length c ≤ l.longest)) × ((l.longest ≡ 0) ⊎ ((i : ℕ) × ((c : List Element) × (slice_get l.self-inside.chunks.items i ≡ Some c) × (length c ≡ l.longest))))
