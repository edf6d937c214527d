-- What touches places of a range touches places of one that covers it, and ranges that are widened and joined begin and
-- end with characters that are in none of them as they were.
use Rattle.std.proofs.Common.{◌≡◌, ℕ, zero, suc, ◌+◌, ◌≤◌, ◌<◌, ◌⊎◌, List, [], ◌∷◌, length, get_or, All, inl, inr, refl, sym, ap, subst, ◌∙◌, arith, ⊎_elim}
use Rattle.std.specs.List.{slice_get, Contains}
use Rattle.std.specs.List.Sorted.{IsPermutation}
use Rattle.std.proofs.lemmas.Bool.{cases_lt}
use Rattle.std.proofs.lemmas.List.{get_or_default}
use Rattle.std.proofs.lemmas.List.Elements.{All-contains}
use Rattle.std.proofs.lemmas.List.Sorted.{Contains-permutation, IsPermutation-sym}
use Rattle.std.proofs.lemmas.Option.{slice_get_within}
use Rattle.change_ops.specs.declared.id.OpId.{OpId}
use Rattle.change_ops.specs.declared.operation.Op.{Op}
use Rattle.change_ops.specs.declared.operation.Op.TheVariants.{Insert, Remove, AddMark, RemoveMark, Revive}
use Rattle.char_sequence.specs.declared.sequence.Element.{Element}
use Rattle.char_sequence.specs.Visible.{IsFirstVisible, IsLastVisible}
use Rattle.mark_places.specs.PlaceRanges.{AreApart}
use Rattle.mark_places.specs.declared.range.PlaceRange.{PlaceRange}
use Rattle.version_laws.specs.Ranges.{AreGapped, LiesOutside, TouchesOneOf}
use Rattle.version_laws.specs.Touched.{CoversWithin, StandsWithin, TouchesWithin}
use Rattle.version_laws.proofs.DrawnKept.{all_from_contains}
use Rattle.version_windows.specs.Edges.{AreWidened, HasKeptEdges, IsKeptAt, IsWidened}
use Rattle.version_windows.specs.Joined.{HasEndsOf, IsCovered}

module _ (es : List Element) (low high low' high' : ℕ) (begins : low' ≤ low) (ends : high ≤ high') where
  covers_wider : (o : Op) → CoversWithin es low high o → CoversWithin es low' high' o
  covers_wider o (first, (last, lies, inl none)) = (first, (last, lies, inl none))
  covers_wider o (first, (last, lies, inr (from, to))) = (first, (last, lies, inr (omega arith, omega arith)))

  stands_wider : (x : OpId) → StandsWithin es low high x → StandsWithin es low' high' x
  stands_wider x (place, at, from, to) = (place, at, omega arith, omega arith)

  pub touches_wider : (ops : List Op) (o : Op) → TouchesWithin ops es low high o → TouchesWithin ops es low' high' o
  touches_wider ops (Insert id parent character) t = stands_wider id t
  touches_wider ops (Remove id target) t = stands_wider target t
  touches_wider ops (AddMark id attribute start end) t = covers_wider (AddMark id attribute start end) t
  touches_wider ops (RemoveMark id key start end) t = covers_wider (RemoveMark id key start end) t
  touches_wider ops (Revive id removal) t = λ x removed. stands_wider x (t x removed)

pub covered_touched : (ops : List Op) (es : List Element) (ranges : List PlaceRange) (range : PlaceRange) (o : Op) → IsCovered ranges range
    → TouchesWithin ops es range.low range.high o → TouchesOneOf ops es ranges o
covered_touched ops es ranges range o (by, held, from, to) t =
    (by, held, touches_wider es range.low range.high by.low by.high from to ops o t)

-- ---- ranges that are apart
first_or_rest : (x : PlaceRange) (xs : List PlaceRange) (r : PlaceRange) → Contains (x ∷ xs) r → (x ≡ r) ⊎ Contains xs r
first_or_rest x xs r (zero, less, is) = inl is
first_or_rest x xs r (suc k, less, is) = inr (k, omega arith, is)

lies_outside : (ranges : List PlaceRange) (place : ℕ) → ((r : PlaceRange) → Contains ranges r → r.low ≤ place → place < r.high → ⊥)
    → LiesOutside ranges place
lies_outside [] place none = tt
lies_outside (r ∷ ranges) place none = (
  ⊎_elim
      (λ (before : place < r.low). inl before)
      (λ (reached : r.low ≤ place).
      ⊎_elim
      (λ (within : place < r.high). absurd (none r (0, omega arith, refl) reached within))
      (λ (past : r.high ≤ place). inr past)
      (cases_lt place r.high))
      (cases_lt place r.low),
  lies_outside ranges place (λ s (k, less, is) from to. none s (suc k, omega arith, is) from to),
)

-- those behind one begin behind its end
begins_behind : (x : PlaceRange) (xs : List PlaceRange) (at end : ℕ) (r : PlaceRange) → AreApart xs at end → AreGapped (x ∷ xs)
    → Contains xs r → x.high < r.low
begins_behind x [] at end r apart gapped (k, less, is) = absurd (omega arith)
begins_behind x (y ∷ ys) at end r (before, order, apart) (gap, gapped) held =
    ⊎_elim
    (λ (here : y ≡ r). subst (λ (z : PlaceRange). x.high < z.low) here gap)
    (λ (later : Contains ys r). let far = begins_behind y ys y.high end r apart gapped later in omega (arith, gap, order, far))
    (first_or_rest y ys r held)

order_within : (ranges : List PlaceRange) (at end : ℕ) (r : PlaceRange) → AreApart ranges at end → Contains ranges r → r.low ≤ r.high
order_within [] at end r apart (k, less, is) = absurd (omega arith)
order_within (x ∷ xs) at end r (before, order, apart) held =
    ⊎_elim
    (λ (here : x ≡ r). subst (λ (z : PlaceRange). z.low ≤ z.high) here order)
    (λ (later : Contains xs r). order_within xs x.high end r apart later)
    (first_or_rest x xs r held)

gapped_rest : (x : PlaceRange) (xs : List PlaceRange) → AreGapped (x ∷ xs) → AreGapped xs
gapped_rest x [] gapped = tt
gapped_rest x (y ∷ ys) (gap, gapped) = gapped

-- two of them that meet are one
one_range : (ranges : List PlaceRange) (at end : ℕ) (r s : PlaceRange) → AreApart ranges at end → AreGapped ranges
    → Contains ranges r → Contains ranges s → r.low ≤ s.high → s.low ≤ r.high → r ≡ s
one_range [] at end r s apart gapped (k, less, is) second from to = absurd (omega arith)
one_range (x ∷ xs) at end r s (before, order, apart) gapped first second from to =
    ⊎_elim
    (λ (here : x ≡ r).
    ⊎_elim
    (λ (same : x ≡ s). sym here ∙ same)
    (λ (later : Contains xs s).
    let far = begins_behind x xs x.high end s apart gapped later in
    let ends = ap (λ (z : PlaceRange). z.high) here in
    absurd (omega (arith, far, ends, to)))
    (first_or_rest x xs s second))
    (λ (behind : Contains xs r).
    ⊎_elim
    (λ (here : x ≡ s).
    let far = begins_behind x xs x.high end r apart gapped behind in
    let ends = ap (λ (z : PlaceRange). z.high) here in
    absurd (omega (arith, far, ends, from)))
    (λ (later : Contains xs s). one_range xs x.high end r s apart (gapped_rest x xs gapped) behind later from to)
    (first_or_rest x xs s second))
    (first_or_rest x xs r first)

-- ---- widened ranges
module _ (es : List Element) (r w : PlaceRange) (widened : IsWidened es r w) where
  -- it begins before the range, or where the text begins
  begins_before : (w.low < r.low) ⊎ (w.low ≡ 0)
  begins_before =
      ⊎_elim
      (λ (last : IsLastVisible es r.low w.low). inl last.before)
      (λ start. inr start.0)
      widened.front

  ends_behind : (r.high < w.high) ⊎ (w.high ≡ length es)
  ends_behind =
      ⊎_elim
      (λ (first : (last : ℕ) × (w.high ≡ last + 1) × IsFirstVisible es r.high last).
      let reached = first.2.reached in
      let is = first.1 in
      inl (omega (arith, reached, is)))
      (λ end. inr end.0)
      widened.back

  wider_within : w.high ≤ length es
  wider_within =
      ⊎_elim
      (λ (first : (last : ℕ) × (w.high ≡ last + 1) × IsFirstVisible es r.high last).
      let v = first.2.visible in
      let low : first.0 < length es = slice_get_within es first.0 v.0 v.1 in
      let is = first.1 in
      omega (arith, low, is))
      (λ end. let is = end.0 in omega (arith, is))
      widened.back

  wider_low : w.low ≤ r.low
  wider_low = ⊎_elim (λ (before : w.low < r.low). omega arith) (λ (start : w.low ≡ 0). omega arith) begins_before

  wider_high : r.high ≤ length es → r.high ≤ w.high
  wider_high within = ⊎_elim (λ (behind : r.high < w.high). omega arith) (λ (end : w.high ≡ length es). omega arith) ends_behind

module _ (es : List Element) (inner wider : List PlaceRange) (are : AreWidened es inner wider)
    (ordered : All (λ r. r.low ≤ r.high) inner) (inside : All (λ r. r.high ≤ length es) inner) where
  order_of : (r : PlaceRange) → Contains inner r → r.low ≤ r.high
  order_of r held = All-contains (λ (x : PlaceRange). x.low ≤ x.high) inner r ordered held

  inside_of : (r : PlaceRange) → Contains inner r → r.high ≤ length es
  inside_of r held = All-contains (λ (x : PlaceRange). x.high ≤ length es) inner r inside held

  wider_of : (r : PlaceRange) → Contains inner r → (w : PlaceRange) × Contains wider w × IsWidened es r w
  wider_of r (k, less, is) =
      let many = are.as_many in
      let low : k < length wider = omega (arith, many, less) in
      let w : PlaceRange = get_or wider k r in
      (w, (k, low, get_or_default wider k w r low), subst (λ (x : PlaceRange). IsWidened es x w) is (are.each k r less))

  range_of : (w : PlaceRange) → Contains wider w → (r : PlaceRange) × Contains inner r × IsWidened es r w
  range_of w (k, less, is) =
      let many = are.as_many in
      let low : k < length inner = omega (arith, many, less) in
      let r : PlaceRange = get_or inner k w in
      (r, (k, low, get_or_default inner k r w low), subst (λ (x : PlaceRange). IsWidened es r x) is (are.each k w low))

  pub widened_order : All (λ w. w.low ≤ w.high) wider
  widened_order =
      all_from_contains (λ (w : PlaceRange). w.low ≤ w.high) wider
      (λ w held.
      let r = range_of w held in
      let order = order_of r.0 r.1 in
      let low = wider_low es r.0 w r.2 in
      let high = wider_high es r.0 w r.2 (inside_of r.0 r.1) in
      omega (arith, order, low, high))

  pub widened_within : All (λ w. w.high ≤ length es) wider
  widened_within =
      all_from_contains (λ (w : PlaceRange). w.high ≤ length es) wider
      (λ w held. let r = range_of w held in wider_within es r.0 w r.2)

  -- ---- sorted and joined
  module _ (sorted all : List PlaceRange) (moved : IsPermutation wider sorted) (apart : AreApart all 0 (length es))
      (gapped : AreGapped all) (covered : (w : PlaceRange) → Contains sorted w → IsCovered all w)
      (ends : All (HasEndsOf sorted) all) where
    -- by the range that covers the widened one
    covering : (r : PlaceRange) → Contains inner r
        → (w : PlaceRange) × (h : PlaceRange) × IsWidened es r w × Contains all h × (h.low ≤ w.low) × (w.high ≤ h.high)
    covering r held =
        let w = wider_of r held in
        let by = covered w.0 (Contains-permutation wider sorted w.0 moved w.1) in
        (w.0, by.0, w.2, by.1, by.2, by.3)

    pub widened_touched : (ops : List Op) (o : Op) → TouchesOneOf ops es inner o → TouchesOneOf ops es all o
    widened_touched ops o (r, held, t) =
        let by = covering r held in
        let low = wider_low es r by.0 by.2 in
        let high = wider_high es r by.0 by.2 (inside_of r held) in
        let from = by.4 in
        let to = by.5 in
        covered_touched ops es all r o (by.1, by.3, omega (arith, low, from), omega (arith, high, to)) t

    range_under : (w : PlaceRange) → Contains sorted w → (r : PlaceRange) × Contains inner r × IsWidened es r w
    range_under w held = range_of w (Contains-permutation sorted wider w (IsPermutation-sym wider sorted moved) held)

    -- no range covers the first place of a joined one, but at the start of the text
    front_outside : (g r : PlaceRange) → Contains all g → Contains inner r → 0 < g.low → r.low ≤ g.low → g.low < r.high → ⊥
    front_outside g r held among some from to =
        let by = covering r among in
        let w = by.0 in
        let h = by.1 in
        let order = order_within all 0 (length es) g apart held in
        let low = wider_low es r w by.2 in
        let high = wider_high es r w by.2 (inside_of r among) in
        let begins = by.4 in
        let stops = by.5 in
        let one : h ≡ g = one_range all 0 (length es) h g apart gapped by.3 held (omega (arith, order, low, begins, from)) (omega (arith, high, stops, to)) in
        let first = ap (λ (z : PlaceRange). z.low) one in
        ⊎_elim
        (λ (before : w.low < r.low). omega (arith, first, begins, before, from))
        (λ (start : w.low ≡ 0). omega (arith, first, begins, start, some))
        (begins_before es r w by.2)

    back_outside : (g r : PlaceRange) (last : ℕ) → Contains all g → Contains inner r → g.high ≡ last + 1 → last + 1 < length es
        → r.low ≤ last → last < r.high → ⊥
    back_outside g r last held among is some from to =
        let by = covering r among in
        let w = by.0 in
        let h = by.1 in
        let order = order_within all 0 (length es) g apart held in
        let low = wider_low es r w by.2 in
        let high = wider_high es r w by.2 (inside_of r among) in
        let begins = by.4 in
        let stops = by.5 in
        let one : h ≡ g = one_range all 0 (length es) h g apart gapped by.3 held (omega (arith, low, begins, from, is)) (omega (arith, order, high, stops, to, is)) in
        let end = ap (λ (z : PlaceRange). z.high) one in
        ⊎_elim
        (λ (behind : r.high < w.high). omega (arith, end, stops, behind, is, to))
        (λ (whole : w.high ≡ length es). omega (arith, end, stops, whole, is, some))
        (ends_behind es r w by.2)

    kept_front : (g : PlaceRange) → Contains all g → HasEndsOf sorted g → (g.low ≡ 0) ⊎ IsKeptAt es inner g.low
    kept_front g held of =
        let w = of.first.0 in
        let begins : g.low ≡ w.low = of.first.2 in
        let r = range_under w of.first.1 in
        ⊎_elim
        (λ (last : IsLastVisible es r.0.low w.low).
        let v = last.visible in
        ⊎_elim
        (λ (some : 0 < g.low).
        inr (v.0, ap (slice_get es) begins ∙ v.1, v.2, lies_outside inner g.low (λ s among from to. front_outside g s held among some from to)))
        (λ (none : g.low ≤ 0). inl (omega arith))
        (cases_lt 0 g.low))
        (λ start. inl (begins ∙ start.0))
        r.2.front

    kept_back : (g : PlaceRange) → Contains all g → HasEndsOf sorted g
        → (g.high ≡ length es) ⊎ ((last : ℕ) × (g.high ≡ last + 1) × (g.low ≤ last) × IsKeptAt es inner last)
    kept_back g held of =
        let w = of.last.0 in
        let stops : g.high ≡ w.high = of.last.2 in
        let r = range_under w of.last.1 in
        ⊎_elim
        (λ (first : (last : ℕ) × (w.high ≡ last + 1) × IsFirstVisible es r.0.high last).
        let last : ℕ = first.0 in
        let is : g.high ≡ last + 1 = stops ∙ first.1 in
        let v = first.2.visible in
        let low : last < length es = slice_get_within es last v.0 v.1 in
        let by = covered w of.last.1 in
        let from : by.0.low ≤ w.low = by.2 in
        let to : w.high ≤ by.0.high = by.3 in
        let order = order_within all 0 (length es) g apart held in
        let along = order_of r.0 r.1 in
        let wide = wider_low es r.0 w r.2 in
        let reached : r.0.high ≤ last = first.2.reached in
        let one : by.0 ≡ g = one_range all 0 (length es) by.0 g apart gapped by.1 held (omega (arith, from, along, wide, reached, is)) (omega (arith, order, stops, to)) in
        let begins = ap (λ (z : PlaceRange). z.low) one in
        ⊎_elim
        (λ (some : last + 1 < length es).
        inr (last, is, omega (arith, begins, from, along, wide, reached), (v.0, v.1, v.2, lies_outside inner last (λ s among from to. back_outside g s last held among is some from to))))
        (λ (none : length es ≤ last + 1). inl (omega (arith, is, low, none)))
        (cases_lt (last + 1) (length es)))
        (λ end. inl (stops ∙ end.0))
        r.2.back

    pub kept_edges : All (HasKeptEdges es inner) all
    kept_edges =
        all_from_contains (HasKeptEdges es inner) all
        (λ g held.
        let of = All-contains (HasEndsOf sorted) all g ends held in
        record { front = kept_front g held of; back = kept_back g held of })
