use Rattle.std.proofs.Common.{◌≡◌, ◌≤◌, take, slice_range}
use Rattle.char_sequence.specs.Chunks.{joined, start_of}
use Rattle.char_sequence.specs.Visible.{visible_count}
use Rattle.char_sequence.proofs.counting.count_of_range.Given as goal

abbrev pub invariant-loop-chunk : goal.invariant-loop-chunk
invariant-loop-chunk l =
    (l.start ≡ start_of l.chunks l.chunk-index) × (l.count ≡ visible_count (slice_range (joined (take l.chunk-index l.chunks)) l.from l.to)) × (l.count ≤ l.start)
