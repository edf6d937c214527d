use Rattle.std.proofs.Common.{◌≡◌, ◌≤◌, ◌++◌, ℕ, List, length, take, drop, append-nil, sym, ap, subst, ◌∙◌, arith, All}
use Rattle.std.specs.List.{Contains}
use Rattle.std.specs.List.Sorted.{IsNonDecreasingBy, IsPermutation}
use Rattle.std.proofs.lemmas.List.{drop_all, take_all}
use Rattle.std.proofs.lemmas.List.Sorted.{All-permutation}
use Rattle.char_sequence.specs.declared.sequence.Element.{Element}
use Rattle.mark_places.specs.declared.range.PlaceRange.{PlaceRange}
use Rattle.version_windows.specs.Edges.{AreWidened}
use Rattle.version_windows.specs.Joined.{HasEndsOf, IsCovered, low_of}
use Rattle.version_windows.proofs.Touching.{widened_order, widened_within, widened_touched, kept_edges}
use Rattle.version_windows.proofs.touched.touched.Goals as goal

-- what is written behind what the loop wrote is nothing
written : (inner wider : List PlaceRange) (len : ℕ) → length wider ≡ length inner → len ≡ length inner
    → take len (wider ++ drop (length wider) inner) ≡ wider
written inner wider len many size =
    ap (λ (l : List PlaceRange). take len (wider ++ l)) (drop_all (length wider) inner (omega (arith, many)))
    ∙ ap (take len) (append-nil wider) ∙ take_all len wider (omega (arith, many, size))

pub joined-requires : goal.joined-requires
joined-requires c =
    let es : List Element = c.args.sequence.now.elements in
    let inner : List PlaceRange = c.in_ok-each.each.items in
    let wider : List PlaceRange = c.widen.new.ranges in
    let sorted : List PlaceRange = c.by_low-each.result.items in
    let are : AreWidened es inner wider = subst (λ (rs : List PlaceRange). AreWidened es rs wider) c.deref_mut.ensures.value c.widen.ensures in
    let size = c.in_ok-each.each.ok.0 in
    let same : IsPermutation wider sorted =
    subst (λ (l : List PlaceRange). IsPermutation l sorted) (written inner wider c.in_ok-each.each.len are.as_many (omega (arith, size))) c.by_low-each.ensures.same in
    record {
      sorted = subst (IsNonDecreasingBy low_of) (sym c.as_slice.ensures.value) c.by_low-each.ensures.sorted;
      order =
          subst (All (λ (r : PlaceRange). r.low ≤ r.high)) (sym c.as_slice.ensures.value)
          (All-permutation (λ (r : PlaceRange). r.low ≤ r.high) wider sorted same
          (widened_order es inner wider are c.in_ok-each.ensures.order c.in_ok-each.ensures.within));
    }

pub returns-clause-apart : goal.returns-clause-apart
returns-clause-apart c =
    let es : List Element = c.args.sequence.now.elements in
    let inner : List PlaceRange = c.in_ok-each.each.items in
    let wider : List PlaceRange = c.widen.new.ranges in
    let sorted : List PlaceRange = c.by_low-each.result.items in
    let are : AreWidened es inner wider = subst (λ (rs : List PlaceRange). AreWidened es rs wider) c.deref_mut.ensures.value c.widen.ensures in
    let size = c.in_ok-each.each.ok.0 in
    let same : IsPermutation wider sorted =
    subst (λ (l : List PlaceRange). IsPermutation l sorted) (written inner wider c.in_ok-each.each.len are.as_many (omega (arith, size))) c.by_low-each.ensures.same in
    c.in_ok-ranges.ensures.apart (length es)
    (subst (All (λ (r : PlaceRange). r.high ≤ length es)) (sym c.as_slice.ensures.value)
    (All-permutation (λ (r : PlaceRange). r.high ≤ length es) wider sorted same
    (widened_within es inner wider are c.in_ok-each.ensures.order c.in_ok-each.ensures.within)))

pub returns-clause-touched : goal.returns-clause-touched
returns-clause-touched c =
    let es : List Element = c.args.sequence.now.elements in
    let inner : List PlaceRange = c.in_ok-each.each.items in
    let wider : List PlaceRange = c.widen.new.ranges in
    let sorted : List PlaceRange = c.by_low-each.result.items in
    let all : List PlaceRange = c.in_ok-ranges.ranges.items in
    let are : AreWidened es inner wider = subst (λ (rs : List PlaceRange). AreWidened es rs wider) c.deref_mut.ensures.value c.widen.ensures in
    let size = c.in_ok-each.each.ok.0 in
    let same : IsPermutation wider sorted =
    subst (λ (l : List PlaceRange). IsPermutation l sorted) (written inner wider c.in_ok-each.each.len are.as_many (omega (arith, size))) c.by_low-each.ensures.same in
    let covered : (w : PlaceRange) → Contains sorted w → IsCovered all w =
    λ w held. c.in_ok-ranges.ensures.covered w (subst (λ (l : List PlaceRange). Contains l w) (sym c.as_slice.ensures.value) held) in
    let ends : All (HasEndsOf sorted) all = subst (λ (l : List PlaceRange). All (HasEndsOf l) all) c.as_slice.ensures.value c.in_ok-ranges.ensures.ends in
    λ ops removals o held.
    widened_touched es inner wider are c.in_ok-each.ensures.order c.in_ok-each.ensures.within sorted all same
    (returns-clause-apart c) c.in_ok-ranges.ensures.gapped covered ends ops o (c.in_ok-each.ensures.touched ops removals o held)

pub returns-clause-edges : goal.returns-clause-edges
returns-clause-edges c =
    let es : List Element = c.args.sequence.now.elements in
    let inner : List PlaceRange = c.in_ok-each.each.items in
    let wider : List PlaceRange = c.widen.new.ranges in
    let sorted : List PlaceRange = c.by_low-each.result.items in
    let all : List PlaceRange = c.in_ok-ranges.ranges.items in
    let are : AreWidened es inner wider = subst (λ (rs : List PlaceRange). AreWidened es rs wider) c.deref_mut.ensures.value c.widen.ensures in
    let size = c.in_ok-each.each.ok.0 in
    let same : IsPermutation wider sorted =
    subst (λ (l : List PlaceRange). IsPermutation l sorted) (written inner wider c.in_ok-each.each.len are.as_many (omega (arith, size))) c.by_low-each.ensures.same in
    let covered : (w : PlaceRange) → Contains sorted w → IsCovered all w =
    λ w held. c.in_ok-ranges.ensures.covered w (subst (λ (l : List PlaceRange). Contains l w) (sym c.as_slice.ensures.value) held) in
    let ends : All (HasEndsOf sorted) all = subst (λ (l : List PlaceRange). All (HasEndsOf l) all) c.as_slice.ensures.value c.in_ok-ranges.ensures.ends in (
      inner,
      c.in_ok-each.ensures.touched,
      kept_edges es inner wider are c.in_ok-each.ensures.order c.in_ok-each.ensures.within sorted all same
          (returns-clause-apart c) c.in_ok-ranges.ensures.gapped covered ends,
    )
