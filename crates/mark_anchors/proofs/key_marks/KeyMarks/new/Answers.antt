use Rattle.std.proofs.Common.{List, ℕ, length, subst}
use Rattle.std.specs.List.{Contains}
use Rattle.mark_anchors.specs.KeyMarks.{ArePainted}
use Rattle.mark_anchors.specs.declared.placed.PlacedMark.{PlacedMark}
use Rattle.mark_anchors.proofs.key_marks.KeyMarks.new.Goals as goal

pub invariant_of-result : goal.invariant_of-result
invariant_of-result c =
    let ordered = c.in_ok-places in
    record {
      rising = ordered.ensures.rising;
      begins = subst (λ (ms : List PlacedMark). (m : PlacedMark) → Contains ms m → Contains ordered.places.items m.start) c.deref.ensures.value (λ m held. (ordered.ensures.members m.start).1 (c.in_ok-places_of.ensures.begins m held));
      ends = subst (λ (ms : List PlacedMark). (m : PlacedMark) → Contains ms m → Contains ordered.places.items m.end) c.deref.ensures.value (λ m held. (ordered.ensures.members m.end).1 (c.in_ok-places_of.ensures.ends m held));
      painted =
          subst (λ (ps : List ℕ). ArePainted ps c.by_id-marks.result.items (length c.by_id-marks.result.items) c.in_ok-numbers.numbers.items) c.deref-2.ensures.value
          (subst (λ (ms : List PlacedMark). ArePainted c.deref-2.result.now ms (length ms) c.in_ok-numbers.numbers.items) c.deref-3.ensures.value c.in_ok-numbers.ensures);
    }
