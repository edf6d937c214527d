-- Where the ranges that changed stood before the change.
use Rattle.std.proofs.Common.{◌≡◌, ℕ, ◌+◌, ◌-◌, ◌<◌, ◌≤◌, List, [], ◌∷◌, ◌++◌, Some, length, take, drop, get_or, refl, sym, ap, subst, ◌∙◌, arith}
use Rattle.std.specs.List.{slice_get}
use Rattle.std.proofs.lemmas.List.{drop_more, take_more, length-drop}
use Rattle.std.proofs.lemmas.Option.{slice_get-get_or}
use Rattle.char_sequence.specs.declared.sequence.Element.{Element}
use Rattle.mark_places.specs.PlaceRanges.{AreApart}
use Rattle.mark_places.specs.declared.range.PlaceRange.{PlaceRange}
use Rattle.version_laws.specs.Ranges.{AreChangedWithin, AreGapped}
use Rattle.version_laws.proofs.OldRanges.{low_found, old_within}
use Rattle.version_laws.proofs.Rising.{get_drop, get_taken}
use Rattle.version_windows.specs.Places.{IsSamePlace}

first_dropped : (k : ℕ) (es : List Element) → slice_get (drop k es) 0 ≡ slice_get es k
first_dropped k es = let same : k + 0 ≡ k = omega arith in get_drop k es 0 ∙ ap (slice_get es) same

pub gapped_rest : (range : PlaceRange) (ranges : List PlaceRange) → AreGapped (range ∷ ranges) → AreGapped ranges
gapped_rest range [] gapped = tt
gapped_rest range (next ∷ ranges) gapped = gapped.1

-- a list of which an item stands in front of what is left
opened : (xs ys : List PlaceRange) (i : ℕ) (x : PlaceRange) → drop i xs ≡ x ∷ ys
    → (take (i + 1) xs ≡ take i xs ++ x ∷ []) × (drop (i + 1) xs ≡ ys) × (slice_get xs i ≡ Some x)
opened xs ys i x is =
    let within : i < length xs = omega (arith, length-drop i xs, ap length is) in
    let left : get_or xs i x ∷ drop (i + 1) xs ≡ x ∷ ys = sym (drop_more xs i x within) ∙ is in
    let item : get_or xs i x ≡ x = cc in
    (take_more xs i x within ∙ ap (λ (y : PlaceRange). take i xs ++ y ∷ []) item, cc, slice_get-get_or xs i x within ∙ ap Some item)

module _ (old new : List Element) where
  -- what stands behind a range stood behind it before
  pub ended : (os ns : List PlaceRange) (n : PlaceRange) (a : ℕ) → AreChangedWithin old new os ns a n.high
      → AreApart ns n.high (length new) → AreGapped (n ∷ ns) → IsSamePlace old new a n.high
  ended [] [] n a (within, same) apart gapped =
      (within, sym (first_dropped a old) ∙ ap (λ (l : List Element). slice_get l 0) same ∙ first_dropped n.high new)
  ended (o ∷ os) (m ∷ ns) n a changed apart gapped =
      let gap : n.high < m.low = gapped.0 in
      let low = low_found old new o m os ns a n.high changed apart in
      let was : 0 < o.low - a = omega arith in
      let is : 0 < m.low - n.high = omega arith in (
        old_within old new (o ∷ os) (m ∷ ns) a n.high changed,
        sym (first_dropped a old) ∙ sym (get_taken (o.low - a) (drop a old) 0 was)
            ∙ ap (λ (l : List Element). slice_get l 0) changed.2 ∙ get_taken (m.low - n.high) (drop n.high new) 0 is
            ∙ first_dropped n.high new,
      )
  ended [] (m ∷ ns) n a changed apart gapped = absurd changed
  ended (o ∷ os) [] n a changed apart gapped = absurd changed

  -- where the range at an index stood, and what stands behind it
  pub record IsNext (olds ranges : List PlaceRange) (index a b : ℕ) (range : PlaceRange) : Type 0 where
    pub was : PlaceRange
    pub at : slice_get olds index ≡ Some was
    pub low : was.low ≡ a + (range.low - b)
    pub order : was.low ≤ was.high
    pub within : was.high ≤ length old
    pub same : IsSamePlace old new was.high range.high
    pub taken : take (index + 1) olds ≡ take index olds ++ was ∷ []
    pub rest : AreChangedWithin old new (drop (index + 1) olds) (drop (index + 1) ranges) was.high range.high

  next_of : (olds left ranges more : List PlaceRange) (index a b : ℕ) (range : PlaceRange) → drop index olds ≡ left
      → drop (index + 1) ranges ≡ more → AreChangedWithin old new left (range ∷ more) a b
      → AreApart (range ∷ more) b (length new) → AreGapped (range ∷ more) → IsNext olds ranges index a b range
  next_of olds [] ranges more index a b range left_is more_is changed apart gapped = absurd changed
  next_of olds (o ∷ os) ranges more index a b range left_is more_is (from, order, same, rest) apart gapped =
      let split = opened olds os index o left_is in
      record {
        was = o;
        at = split.2;
        low = low_found old new o range os more a b (from, order, same, rest) apart;
        order = order;
        within = old_within old new os more o.high range.high rest;
        same = ended os more range o.high rest apart.2 gapped;
        taken = split.0;
        rest =
            subst (λ (l : List PlaceRange). AreChangedWithin old new l (drop (index + 1) ranges) o.high range.high) (sym split.1)
            (subst (λ (l : List PlaceRange). AreChangedWithin old new os l o.high range.high) (sym more_is) rest);
      }

  pub next_range : (olds ranges : List PlaceRange) (index a b : ℕ) (d : PlaceRange) → index < length ranges
      → AreChangedWithin old new (drop index olds) (drop index ranges) a b → AreApart (drop index ranges) b (length new)
      → AreGapped (drop index ranges) → IsNext olds ranges index a b (get_or ranges index d)
  next_range olds ranges index a b d within changed apart gapped =
      let is = drop_more ranges index d within in
      next_of olds (drop index olds) ranges (drop (index + 1) ranges) index a b (get_or ranges index d) refl refl
      (subst (λ (l : List PlaceRange). AreChangedWithin old new (drop index olds) l a b) is changed)
      (subst (λ (l : List PlaceRange). AreApart l b (length new)) is apart)
      (subst AreGapped is gapped)

  -- once there is no range left, there is no old one left
  pub none_left : (olds ranges : List PlaceRange) (index a b : ℕ) → drop index ranges ≡ []
      → AreChangedWithin old new (drop index olds) (drop index ranges) a b → drop index olds ≡ []
  none_left olds ranges index a b none changed =
      empty (drop index olds) (subst (λ (l : List PlaceRange). AreChangedWithin old new (drop index olds) l a b) none changed)
    where
      empty : (left : List PlaceRange) → AreChangedWithin old new left [] a b → left ≡ []
      empty [] c = refl
      empty (o ∷ os) c = absurd c

-- what is behind the first of the ranges that are left
pub left_apart : (ranges : List PlaceRange) (index b end : ℕ) (d : PlaceRange) → index < length ranges
    → AreApart (drop index ranges) b end → (b ≤ (get_or ranges index d).low)
    × ((get_or ranges index d).low ≤ (get_or ranges index d).high) × AreApart (drop (index + 1) ranges) (get_or ranges index d).high end
left_apart ranges index b end d within apart =
    subst (λ (l : List PlaceRange). AreApart l b end) (drop_more ranges index d within) apart

pub left_gapped : (ranges : List PlaceRange) (index : ℕ) (d : PlaceRange) → index < length ranges
    → AreGapped (drop index ranges) → AreGapped (drop (index + 1) ranges)
left_gapped ranges index d within gapped =
    gapped_rest (get_or ranges index d) (drop (index + 1) ranges) (subst AreGapped (drop_more ranges index d within) gapped)
