use Rattle.std.proofs.Common.{◌≡◌, ◌<◌, ℕ, Some}
use Rattle.std.specs.List.{slice_get, Contains}
use Rattle.mark_anchors.specs.KeyMarks.{IsEndOf}
use Rattle.mark_anchors.specs.declared.placed.PlacedMark.{PlacedMark}
use Rattle.mark_anchors.proofs.key_marks.places_of.Given as goal

abbrev pub invariant-loop-mark : goal.invariant-loop-mark
invariant-loop-mark l = record {
  there : (i : ℕ) (m : PlacedMark) → i < l.mark-index → slice_get l.marks i ≡ Some m → Contains l.places.items m.start;
  no_other : (c : ℕ) → Contains l.places.items c → IsEndOf l.marks c;
}

abbrev pub invariant-loop-mark-2 : goal.invariant-loop-mark-2
invariant-loop-mark-2 l = record {
  begins : (m : PlacedMark) → Contains l.marks m → Contains l.places.items m.start;
  there : (i : ℕ) (m : PlacedMark) → i < l.mark-index → slice_get l.marks i ≡ Some m → Contains l.places.items m.end;
  no_other : (c : ℕ) → Contains l.places.items c → IsEndOf l.marks c;
}
