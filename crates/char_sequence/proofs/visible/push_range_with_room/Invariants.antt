use Rattle.std.proofs.Common.{◌≡◌, ◌≤◌, ◌++◌, take, string_bytes, slice_range}
use Rattle.std.specs.String.{string_capacity}
use Rattle.char_sequence.specs.Chunks.{joined, start_of}
use Rattle.char_sequence.specs.Visible.{visible_text}
use Rattle.char_sequence.proofs.visible.push_range_with_room.Given as goal

abbrev pub invariant-loop-chunk : goal.invariant-loop-chunk
invariant-loop-chunk l =
    (l.start ≡ start_of l.chunks l.chunk-index) × (string_bytes l.text ≡ string_bytes l.initial.text ++ visible_text (slice_range (joined (take l.chunk-index l.chunks)) l.from l.to)) × (string_capacity l.initial.text ≤ string_capacity l.text)
