use Rattle.std.proofs.Common.{◌≡◌, slice_range}
use Rattle.char_sequence.specs.Visible.{visible_count}
use Rattle.char_sequence.proofs.visible_places.first_visible.Given as goal

abbrev pub invariant-loop-index : goal.invariant-loop-index
invariant-loop-index l = visible_count (slice_range l.elements l.start l.index) ≡ 0
