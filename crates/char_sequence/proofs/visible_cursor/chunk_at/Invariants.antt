use Rattle.std.proofs.Common.{◌≡◌, ◌≤◌}
use Rattle.char_sequence.specs.Chunks.{start_of}
use Rattle.char_sequence.proofs.visible_cursor.chunk_at.Given as goal

abbrev pub invariant-loop-position : goal.invariant-loop-position
invariant-loop-position l = (l.start ≡ start_of l.chunks l.position) × (l.start ≤ l.place)
