use Rattle.std.proofs.Common.{◌≡◌, ◌≤◌, ◌*◌, length, take, slice_range}
use Rattle.char_sequence.specs.Chunks.{joined, start_of}
use Rattle.char_sequence.specs.Visible.{visible_text}
use Rattle.char_sequence.proofs.visible.visible_len_of_range.Given as goal

abbrev pub invariant-loop-chunk : goal.invariant-loop-chunk
invariant-loop-chunk l =
    (l.start ≡ start_of l.chunks l.chunk-index) × (l.count ≡ length (visible_text (slice_range (joined (take l.chunk-index l.chunks)) l.from l.to))) × (l.count ≤ 4 * l.start)
