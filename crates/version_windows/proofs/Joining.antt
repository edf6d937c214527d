-- Ranges joined one after another.
use Rattle.std.proofs.Common.{◌≡◌, ℕ, ◌+◌, ◌<◌, ◌≤◌, List, [], ◌∷◌, ◌++◌, Some, length, get_or, refl, sym, ap, subst, ◌∙◌, arith, ⊎_elim, All}
use Rattle.std.specs.List.{slice_get, Contains}
use Rattle.std.specs.List.Sorted.{IsNonDecreasingBy}
use Rattle.std.proofs.lemmas.Bool.{cases_lt}
use Rattle.std.proofs.lemmas.List.Elements.{All-contains, All-push, Contains-append_left, Contains-push, Contains-push_cases}
use Rattle.std.proofs.lemmas.Option.{same_Some, slice_get_within, slice_get-get_or, get_or_from_slice_get}
use Rattle.mark_places.specs.PlaceRanges.{AreApart}
use Rattle.mark_places.specs.declared.range.PlaceRange.{PlaceRange}
use Rattle.version_laws.specs.Ranges.{AreGapped}
use Rattle.version_windows.specs.Joined.{HasEndsOf, IsCovered, low_of}

-- the ranges up to an index are joined: `all`, and a last one, which the next one may join
pub record AreJoined (ranges : List PlaceRange) (index : ℕ) (all : List PlaceRange) (last : PlaceRange) : Type 0 where
  pub order : last.low ≤ last.high
  pub apart : AreApart (all ++ last ∷ []) 0 last.high
  pub gapped : AreGapped (all ++ last ∷ [])
  pub ahead : (k : ℕ) (r : PlaceRange) → index ≤ k → slice_get ranges k ≡ Some r → last.low ≤ r.low
  pub ends : All (HasEndsOf ranges) all
  pub last_ends : HasEndsOf ranges last
  pub below : (end : ℕ) → All (λ r. r.high ≤ end) ranges → last.high ≤ end
  pub covered : (k : ℕ) (r : PlaceRange) → k < index → slice_get ranges k ≡ Some r → IsCovered (all ++ last ∷ []) r

held_at : (ranges : List PlaceRange) (k : ℕ) (r : PlaceRange) → slice_get ranges k ≡ Some r → Contains ranges r
held_at ranges k r g = (k, slice_get_within ranges k r g, get_or_from_slice_get ranges k r r g)

in_order : (ranges : List PlaceRange) (i k : ℕ) (r s : PlaceRange) → IsNonDecreasingBy low_of ranges → i ≤ k
    → slice_get ranges i ≡ Some r → slice_get ranges k ≡ Some s → r.low ≤ s.low
in_order ranges i k r s sorted le g h =
    let first : get_or ranges i r ≡ r = get_or_from_slice_get ranges i r r g in
    let second : get_or ranges k r ≡ s = get_or_from_slice_get ranges k s r h in
    subst (λ (x : PlaceRange). x.low ≤ s.low) first
    (subst (λ (x : PlaceRange). low_of (get_or ranges i r) ≤ x.low) second
    (sorted i k r le (slice_get_within ranges k s h)))

-- ---- the last one may end later, and more may follow
pub apart_later : (ranges : List PlaceRange) (at end later : ℕ) → AreApart ranges at end → end ≤ later
    → AreApart ranges at later
apart_later [] at end later apart le = omega arith
apart_later (r ∷ ranges) at end later (behind, order, apart) le =
    (behind, order, apart_later ranges r.high end later apart le)

apart_pushed : (ranges : List PlaceRange) (at end : ℕ) (next : PlaceRange) → AreApart ranges at end → end ≤ next.low
    → next.low ≤ next.high → AreApart (ranges ++ next ∷ []) at next.high
apart_pushed [] at end next apart behind order = (omega arith, order, omega arith)
apart_pushed (r ∷ ranges) at end next (before, within, apart) behind order =
    (before, within, apart_pushed ranges r.high end next apart behind order)

apart_widened : (ranges : List PlaceRange) (at end : ℕ) (last wider : PlaceRange) → AreApart (ranges ++ last ∷ []) at end
    → wider.low ≡ last.low → wider.low ≤ wider.high → AreApart (ranges ++ wider ∷ []) at wider.high
apart_widened [] at end last wider (before, within, apart) same order = (omega arith, order, omega arith)
apart_widened (r ∷ ranges) at end last wider (before, within, apart) same order =
    (before, within, apart_widened ranges r.high end last wider apart same order)

gapped_pushed : (ranges : List PlaceRange) (last next : PlaceRange) → AreGapped (ranges ++ last ∷ [])
    → last.high < next.low → AreGapped ((ranges ++ last ∷ []) ++ next ∷ [])
gapped_pushed [] last next gapped less = (less, tt)
gapped_pushed (r ∷ []) last next (gap, gapped) less = (gap, (less, tt))
gapped_pushed (r ∷ s ∷ ranges) last next (gap, gapped) less = (gap, gapped_pushed (s ∷ ranges) last next gapped less)

gapped_widened : (ranges : List PlaceRange) (last wider : PlaceRange) → AreGapped (ranges ++ last ∷ [])
    → wider.low ≡ last.low → AreGapped (ranges ++ wider ∷ [])
gapped_widened [] last wider gapped same = tt
gapped_widened (r ∷ []) last wider (gap, gapped) same = (omega arith, tt)
gapped_widened (r ∷ s ∷ ranges) last wider (gap, gapped) same =
    (gap, gapped_widened (s ∷ ranges) last wider gapped same)

covered_widened : (all : List PlaceRange) (last wider r : PlaceRange) → IsCovered (all ++ last ∷ []) r
    → wider.low ≡ last.low → last.high ≤ wider.high → IsCovered (all ++ wider ∷ []) r
covered_widened all last wider r (by, held, from, to) same later =
    ⊎_elim
    (λ (early : Contains all by). (by, Contains-append_left all (wider ∷ []) by early, from, to))
    (λ (late : last ≡ by).
    let first : by.low ≡ last.low = ap (λ (x : PlaceRange). x.low) (sym late) in
    let end : by.high ≡ last.high = ap (λ (x : PlaceRange). x.high) (sym late) in
    (wider, Contains-push all wider, omega arith, omega arith))
    (Contains-push_cases all last by held)

-- ---- the steps
module _ (ranges : List PlaceRange) (sorted : IsNonDecreasingBy low_of ranges)
    (ordered : All (λ r. r.low ≤ r.high) ranges) where
  order_at : (k : ℕ) (r : PlaceRange) → slice_get ranges k ≡ Some r → r.low ≤ r.high
  order_at k r g = All-contains (λ (x : PlaceRange). x.low ≤ x.high) ranges r ordered (held_at ranges k r g)

  below_at : (k : ℕ) (r : PlaceRange) → slice_get ranges k ≡ Some r → (end : ℕ) → All (λ x. x.high ≤ end) ranges → r.high ≤ end
  below_at k r g end all = All-contains (λ (x : PlaceRange). x.high ≤ end) ranges r all (held_at ranges k r g)

  ends_of : (k : ℕ) (r : PlaceRange) → slice_get ranges k ≡ Some r → HasEndsOf ranges r
  ends_of k r g = record {
    first = (r, held_at ranges k r g, refl);
    last = (r, held_at ranges k r g, refl);
  }

  pub started : (first : PlaceRange) → slice_get ranges 0 ≡ Some first → AreJoined ranges 1 [] first
  started first g =
      let order = order_at 0 first g in
      record {
        order = order;
        apart = (omega arith, order, omega arith);
        gapped = tt;
        ends = λ k d h. absurd (omega arith);
        last_ends = ends_of 0 first g;
        ahead = λ k r le h. in_order ranges 0 k first r sorted (omega arith) g h;
        below = λ end all. below_at 0 first g end all;
        covered =
            λ k r less h.
            let zeroth : k ≡ 0 = omega arith in
            let same : first ≡ r = same_Some first r (sym g ∙ ap (slice_get ranges) (sym zeroth) ∙ h) in
            let low : r.low ≡ first.low = ap (λ (x : PlaceRange). x.low) (sym same) in
            let high : r.high ≡ first.high = ap (λ (x : PlaceRange). x.high) (sym same) in
            (first, Contains-push [] first, omega arith, omega arith);
      }

  pub widened : (index : ℕ) (all : List PlaceRange) (last r wider : PlaceRange) → AreJoined ranges index all last
      → slice_get ranges index ≡ Some r → r.low ≤ last.high → wider.low ≡ last.low → last.high ≤ wider.high → r.high ≤ wider.high
      → ((end : ℕ) → last.high ≤ end → r.high ≤ end → wider.high ≤ end) → AreJoined ranges (index + 1) all wider
  widened index all last r wider joined g near same later ends least =
      let order = joined.order in
      let wide : wider.low ≤ wider.high = omega arith in
      record {
        order = wide;
        apart = apart_widened all 0 last.high last wider joined.apart same wide;
        gapped = gapped_widened all last wider joined.gapped same;
        ends = joined.ends;
        last_ends = record {
          first = (joined.last_ends.first.0, joined.last_ends.first.1, same ∙ joined.last_ends.first.2);
          last =
              ⊎_elim
              (λ (further : last.high < r.high).
              let most = least r.high (omega arith) (omega arith) in
              (r, held_at ranges index r g, omega arith))
              (λ (nearer : r.high ≤ last.high).
              let most = least last.high (omega arith) nearer in
              let e : wider.high ≡ last.high = omega arith in
              (joined.last_ends.last.0, joined.last_ends.last.1, e ∙ joined.last_ends.last.2))
              (cases_lt last.high r.high);
        };
        ahead = λ k s le h. let before = joined.ahead k s (omega arith) h in omega arith;
        below = λ end every. least end (joined.below end every) (below_at index r g end every);
        covered =
            λ k s less h.
            ⊎_elim
            (λ (early : k < index). covered_widened all last wider s (joined.covered k s early h) same later)
            (λ (here : index ≤ k).
            let this : k ≡ index = omega arith in
            let one : r ≡ s = same_Some r s (sym g ∙ ap (slice_get ranges) (sym this) ∙ h) in
            let before = joined.ahead index r (omega arith) g in
            let low : s.low ≡ r.low = ap (λ (x : PlaceRange). x.low) (sym one) in
            let high : s.high ≡ r.high = ap (λ (x : PlaceRange). x.high) (sym one) in
            (wider, Contains-push all wider, omega arith, omega arith))
            (cases_lt k index);
      }

  pub moved_on : (index : ℕ) (all : List PlaceRange) (last r : PlaceRange) → AreJoined ranges index all last
      → slice_get ranges index ≡ Some r → last.high < r.low → AreJoined ranges (index + 1) (all ++ last ∷ []) r
  moved_on index all last r joined g far =
      let order = order_at index r g in
      record {
        order = order;
        apart = apart_pushed (all ++ last ∷ []) 0 last.high r joined.apart (omega arith) order;
        gapped = gapped_pushed all last r joined.gapped far;
        ends = All-push (HasEndsOf ranges) all last joined.ends joined.last_ends;
        last_ends = ends_of index r g;
        ahead = λ k s le h. in_order ranges index k r s sorted (omega arith) g h;
        below = λ end every. below_at index r g end every;
        covered =
            λ k s less h.
            ⊎_elim
            (λ (early : k < index).
            let by = joined.covered k s early h in
            (by.0, Contains-append_left (all ++ last ∷ []) (r ∷ []) by.0 by.1, by.2, by.3))
            (λ (here : index ≤ k).
            let this : k ≡ index = omega arith in
            let one : r ≡ s = same_Some r s (sym g ∙ ap (slice_get ranges) (sym this) ∙ h) in
            let low : s.low ≡ r.low = ap (λ (x : PlaceRange). x.low) (sym one) in
            let high : s.high ≡ r.high = ap (λ (x : PlaceRange). x.high) (sym one) in
            (r, Contains-push (all ++ last ∷ []) r, omega arith, omega arith))
            (cases_lt k index);
      }

  -- once all are joined, each is covered
  pub all_covered : (index : ℕ) (all : List PlaceRange) (last : PlaceRange) → AreJoined ranges index all last
      → length ranges ≤ index → (r : PlaceRange) → Contains ranges r → IsCovered (all ++ last ∷ []) r
  all_covered index all last joined past r (k, within, is) =
      joined.covered k r (omega arith) (slice_get-get_or ranges k r within ∙ ap Some is)
