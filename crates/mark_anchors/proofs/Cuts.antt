-- The cuts of a window, and how they are read from a vector.
use Rattle.std.proofs.Common.{◌≡◌, ◌+◌, ◌<◌, ◌≤◌, ◌↔◌, ℕ, List, inr, length, get_or, refl, sym, subst}
use Rattle.std.specs.List.{Contains}
use Rattle.std.specs.List.Sorted.{IsStrictlyIncreasing}
use Rattle.std.proofs.lemmas.Option.{slice_get-get_or}
use Rattle.change_ops.specs.declared.operation.Op.{Op}
use Rattle.char_sequence.specs.declared.sequence.Element.{Element}
use Rattle.mark_anchors.specs.KeyMarks.{AreEnds}
use Rattle.mark_anchors.specs.Placed.{AreAllPlaced}
use Rattle.mark_anchors.specs.Resolution.{AreInWindow}
use Rattle.mark_anchors.specs.Ranges.{AreCuts, IsReached, IsUniform}
use Rattle.mark_anchors.specs.declared.placed.PlacedMark.{PlacedMark}
use Rattle.mark_anchors.proofs.Gathering.{mark_at}
use Rattle.mark_anchors.proofs.Lists.{contains_at, contains_from}
use Rattle.mark_anchors.proofs.Uniform.{next_cut}

-- the places at which marks begin and end, in order
pub ends_of_places : (marks read : List PlacedMark) (places rising : List ℕ) → read ≡ marks → ((m : PlacedMark) → Contains read m → Contains places m.start) → ((m : PlacedMark) → Contains read m → Contains places m.end) → IsStrictlyIncreasing rising → ((c : ℕ) → Contains rising c ↔ Contains places c) → AreEnds marks rising
ends_of_places marks read places rising is begins ends rises members = record {
  rising = rises;
  begins = λ m held. (members m.start).1 (begins m (subst (λ (ms : List PlacedMark). Contains ms m) (sym is) held));
  ends = λ m held. (members m.end).1 (ends m (subst (λ (ms : List PlacedMark). Contains ms m) (sym is) held));
}

-- the places of a window at which marks begin and end, and its end
pub cuts_from_ends : (es : List Element) (operations : List Op) (all : List PlacedMark) (places : List ℕ) (low high : ℕ) (cuts : List ℕ) → AreAllPlaced es operations all → AreEnds all places → AreInWindow places low high cuts → AreCuts es operations low high cuts
cuts_from_ends es operations all places low high cuts are ends inside = record {
  rising = inside.rising;
  within = inside.within;
  end = inside.end;
  every =
      λ o held.
      let at = contains_at operations o held in
      let m = mark_at es operations all are at.0 o at.1 in
      let there : Contains all m.0 = contains_from all at.0 m.0 m.1 in
      (m.0.start, (m.0.end, m.2.lies, inside.every m.0.start (ends.begins m.0 there), inside.every m.0.end (ends.ends m.0 there)));
}

pub next_read : (es : List Element) (marks : List Op) (low high : ℕ) (cuts : List ℕ) (k from : ℕ) → AreCuts es marks low high cuts → IsReached cuts low k from → k < length cuts → (from ≤ get_or cuts k 0) × (get_or cuts k 0 ≤ high) × IsUniform es marks from (get_or cuts k 0)
next_read es marks low high cuts k from are reached within = next_cut es marks low high cuts are k from (get_or cuts k 0) reached (slice_get-get_or cuts k 0 within)

pub reached_next : (cuts : List ℕ) (low k : ℕ) → k < length cuts → IsReached cuts low (k + 1) (get_or cuts k 0)
reached_next cuts low k within = inr (k, refl, slice_get-get_or cuts k 0 within)
