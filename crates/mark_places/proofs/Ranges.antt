-- Ranges that stand one after another.
use Rattle.std.proofs.Common.{◌≡◌, ℕ, zero, suc, ◌-◌, ◌<◌, ◌≤◌, List, [], ◌∷◌, Some, length, get_or, sym, ap, subst, ◌∙◌, arith, ⊎_elim}
use Rattle.std.specs.List.{slice_get, Contains}
use Rattle.std.specs.List.Sorted.{IsNonDecreasingBy}
use Rattle.std.proofs.lemmas.Bool.{cases_lt}
use Rattle.std.proofs.lemmas.Option.{same_Some, none-some, slice_get_within, slice_get-get_or, get_or_from_slice_get}
use Rattle.mark_anchors.specs.declared.placed.PlacedMark.{PlacedMark}
use Rattle.mark_anchors.proofs.Lists.{contains_at, contains_from}
use Rattle.mark_places.specs.declared.range.PlaceRange.{PlaceRange}
use Rattle.mark_places.specs.PlaceRanges.{AreApart, IsHull, CoversSome, CoversAny}

apart_at : (ranges : List PlaceRange) (at end i : ℕ) (r : PlaceRange) → AreApart ranges at end → slice_get ranges i ≡ Some r → (at ≤ r.low) × (r.low ≤ r.high)
apart_at [] at end i r apart g = absurd (none-some r g)
apart_at (x ∷ ranges) at end zero r apart g = subst (λ (z : PlaceRange). (at ≤ z.low) × (z.low ≤ z.high)) (same_Some x r g) (apart.0, apart.1)
apart_at (x ∷ ranges) at end (suc i) r apart g =
    let rest = apart_at ranges x.high end i r apart.2 g in
    let low = rest.0 in
    let from = apart.0 in
    let order = apart.1 in
    (omega arith, rest.1)

pub apart_order : (ranges : List PlaceRange) (at end i j : ℕ) (r s : PlaceRange) → AreApart ranges at end → i < j → slice_get ranges i ≡ Some r → slice_get ranges j ≡ Some s → r.high ≤ s.low
apart_order [] at end i j r s apart less g h = absurd (none-some r g)
apart_order (x ∷ ranges) at end i zero r s apart less g h = absurd (omega arith)
apart_order (x ∷ ranges) at end zero (suc j) r s apart less g h =
    subst (λ (z : PlaceRange). z.high ≤ s.low) (same_Some x r g) (apart_at ranges x.high end j s apart.2 h).0
apart_order (x ∷ ranges) at end (suc i) (suc j) r s apart less g h = apart_order ranges x.high end i j r s apart.2 (omega arith) g h

-- no range ends before an earlier one
apart_highs : (ranges : List PlaceRange) (at end i j : ℕ) (r s : PlaceRange) → AreApart ranges at end → i ≤ j → slice_get ranges i ≡ Some r → slice_get ranges j ≡ Some s → r.high ≤ s.high
apart_highs ranges at end i j r s apart low g h =
    ⊎_elim
    (λ (less : i < j).
    let order = apart_order ranges at end i j r s apart less g h in
    let own = (apart_at ranges at end j s apart h).1 in
    omega arith)
    (λ (same : j ≤ i).
    let one : i ≡ j = omega arith in
    let is : r ≡ s = same_Some r s (sym g ∙ ap (slice_get ranges) one ∙ h) in
    omega (arith, ap (λ (z : PlaceRange). z.high) is))
    (cases_lt i j)

pub highs_rise : (ranges : List PlaceRange) (at end : ℕ) → AreApart ranges at end → IsNonDecreasingBy (λ (r : PlaceRange). r.high) ranges
highs_rise ranges at end apart i j d low within =
    let first : i < length ranges = omega arith in
    apart_highs ranges at end i j (get_or ranges i d) (get_or ranges j d) apart low (slice_get-get_or ranges i d first) (slice_get-get_or ranges j d within)

-- and none begins before an earlier one
apart_lows : (ranges : List PlaceRange) (at end i j : ℕ) (r s : PlaceRange) → AreApart ranges at end → i ≤ j → slice_get ranges i ≡ Some r → slice_get ranges j ≡ Some s → r.low ≤ s.low
apart_lows ranges at end i j r s apart low g h =
    ⊎_elim
    (λ (less : i < j).
    let order = apart_order ranges at end i j r s apart less g h in
    let own = (apart_at ranges at end i r apart g).1 in
    omega arith)
    (λ (same : j ≤ i).
    let one : i ≡ j = omega arith in
    let is : r ≡ s = same_Some r s (sym g ∙ ap (slice_get ranges) one ∙ h) in
    omega (arith, ap (λ (z : PlaceRange). z.low) is))
    (cases_lt i j)

pub lows_rise : (ranges : List PlaceRange) (at end : ℕ) → AreApart ranges at end → IsNonDecreasingBy (λ (r : PlaceRange). r.low) ranges
lows_rise ranges at end apart i j d low within =
    let first : i < length ranges = omega arith in
    apart_lows ranges at end i j (get_or ranges i d) (get_or ranges j d) apart low (slice_get-get_or ranges i d first) (slice_get-get_or ranges j d within)

-- each range is within the hull
pub in_hull : (ranges : List PlaceRange) (at end : ℕ) (hull range : PlaceRange) → AreApart ranges at end → IsHull ranges hull → Contains ranges range → (hull.low ≤ range.low) × (range.high ≤ hull.high)
in_hull ranges at end hull range apart is held =
    let i = contains_at ranges range held in
    let within : i.0 < length ranges = slice_get_within ranges i.0 range i.1 in
    let first = is.first in
    let last = is.last in
    let low = first.2 in
    let high = last.2 in
    let own = (apart_at ranges at end 0 first.0 apart first.1).1 in
    let most = apart_highs ranges at end i.0 (length ranges - 1) range last.0 apart (omega arith) i.1 last.1 in (
      ⊎_elim
          (λ (less : 0 < i.0). let order = apart_order ranges at end 0 i.0 first.0 range apart less first.1 i.1 in omega arith)
          (λ (none : i.0 ≤ 0).
          let zero_is : 0 ≡ i.0 = omega arith in
          let one : first.0 ≡ range = same_Some first.0 range (sym first.1 ∙ ap (slice_get ranges) zero_is ∙ i.1) in
          omega (arith, ap (λ (z : PlaceRange). z.low) one))
          (cases_lt 0 i.0),
      omega arith,
    )

-- ---- the first range that ends behind a mark's start
module _ (ranges : List PlaceRange) (at end : ℕ) (apart : AreApart ranges at end) (mark : PlacedMark) (index : ℕ)
    (first : (k : ℕ) (d : PlaceRange) → k < index → (get_or ranges k d).high ≤ mark.start)
    (rest : (k : ℕ) (d : PlaceRange) → index ≤ k → k < length ranges → mark.start < (get_or ranges k d).high) where
  -- a range with a place that the mark covers is that one or behind it
  reached : (range : PlaceRange) (i : ℕ) → slice_get ranges i ≡ Some range → CoversSome range mark → index ≤ i
  reached range i g covers =
      ⊎_elim
      (λ (less : i < index).
      let ended = first i range less in
      let is = ap (λ (z : PlaceRange). z.high) (get_or_from_slice_get ranges i range range g) in
      let before = covers.before in
      absurd (omega arith))
      (λ (from : index ≤ i). from)
      (cases_lt i index)

  pub none_behind : length ranges ≤ index → CoversAny ranges mark → ⊥
  none_behind past (range, held, covers) =
      let i = contains_at ranges range held in
      let within : i.0 < length ranges = slice_get_within ranges i.0 range i.1 in
      let from = reached range i.0 i.1 covers in
      omega arith

  pub found : (range : PlaceRange) → slice_get ranges index ≡ Some range → range.low < mark.end → mark.start < mark.end → CoversAny ranges mark
  found range g behind some =
      let within : index < length ranges = slice_get_within ranges index range g in
      let ends = rest index range (omega arith) within in
      let is = ap (λ (z : PlaceRange). z.high) (get_or_from_slice_get ranges index range range g) in
      (range, contains_from ranges index range g, record { before = omega (arith, ends, is); behind = behind; some = some })

  pub not_found : (range : PlaceRange) → slice_get ranges index ≡ Some range → mark.end ≤ range.low → CoversAny ranges mark → ⊥
  not_found range g apart_from (other, held, covers) =
      let i = contains_at ranges other held in
      let from = reached other i.0 i.1 covers in
      let behind = covers.behind in
      ⊎_elim
      (λ (less : index < i.0).
      let order = apart_order ranges at end index i.0 range other apart less g i.1 in
      let own = (apart_at ranges at end index range apart g).1 in
      omega arith)
      (λ (none : i.0 ≤ index).
      let same_index : index ≡ i.0 = omega arith in
      let one : range ≡ other = same_Some range other (sym g ∙ ap (slice_get ranges) same_index ∙ i.1) in
      omega (arith, ap (λ (z : PlaceRange). z.low) one))
      (cases_lt index i.0)

-- ---- those of the ranges that marks between two places can cover some of
module _ (ranges : List PlaceRange) (at end : ℕ) (apart : AreApart ranges at end) (low high first last : ℕ)
    (ended : (k : ℕ) (d : PlaceRange) → k < first → (get_or ranges k d).high ≤ low)
    (begun : (k : ℕ) (d : PlaceRange) → last ≤ k → k < length ranges → high ≤ (get_or ranges k d).low)
    (mark : PlacedMark) (from : low ≤ mark.start) (to : mark.end ≤ high) where
  -- a range that the mark covers some of is one of them
  between : (range : PlaceRange) (i : ℕ) → slice_get ranges i ≡ Some range → CoversSome range mark → (first ≤ i) × (i < last)
  between range i g covers =
      let within : i < length ranges = slice_get_within ranges i range g in
      let before = covers.before in
      let behind = covers.behind in
      let is = get_or_from_slice_get ranges i range range g in (
        ⊎_elim
            (λ (less : i < first). let e = ended i range less in let same = ap (λ (z : PlaceRange). z.high) is in absurd (omega arith))
            (λ (yes : first ≤ i). yes)
            (cases_lt i first),
        ⊎_elim
            (λ (yes : i < last). yes)
            (λ (later : last ≤ i). let b = begun i range later within in let same = ap (λ (z : PlaceRange). z.low) is in absurd (omega arith))
            (cases_lt i last),
      )

  pub some_between : CoversAny ranges mark → first < last
  some_between (range, held, covers) =
      let i = contains_at ranges range held in
      let r = between range i.0 i.1 covers in
      let a = r.0 in
      let b = r.1 in
      omega arith

  pub hull_covered : (one other hull : PlaceRange) → slice_get ranges first ≡ Some one → slice_get ranges (last - 1) ≡ Some other → hull.low ≡ one.low → hull.high ≡ other.high → CoversAny ranges mark → CoversSome hull mark
  hull_covered one other hull g h l u (range, held, covers) =
      let i = contains_at ranges range held in
      let r = between range i.0 i.1 covers in
      let a = r.0 in
      let b = r.1 in
      let before = covers.before in
      let behind = covers.behind in
      let lows = apart_lows ranges at end first i.0 one range apart a g i.1 in
      let highs = apart_highs ranges at end i.0 (last - 1) range other apart (omega arith) i.1 h in
      record { before = omega arith; behind = omega arith; some = covers.some }
