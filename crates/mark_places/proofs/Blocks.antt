-- The marks of a block, by its lists.
use Rattle.std.proofs.Common.{◌≡◌, ℕ, zero, suc, ◌*◌, ◌/◌, Option, Some, get_or, ◌+◌, ◌-◌, ◌<◌, ◌≤◌, ◌^◌, ◌↔◌, List, [], ◌∷◌, min, max, map, take, drop, length, refl, sym, ap, subst, ◌∙◌, arith, ◌⊎◌, inl, inr, ⊎_elim, All}
use Rattle.std.specs.List.{Contains, slice_get, insert}
use Rattle.std.proofs.lemmas.Bool.{cases_lt}
use Rattle.std.proofs.lemmas.Option.{same_Some, none-some, slice_get_within}
use Rattle.std.proofs.lemmas.List.{length-map}
use Rattle.std.proofs.lemmas.List.Edits.{length-insert}
use Rattle.std.proofs.lemmas.List.Sorted.{All-permutation, Contains-permutation, IsPermutation-insert}
use Rattle.std.proofs.lemmas.List.Elements.{All-nil, All-cons, All-head, All-tail, All-map, All-weaker, All-contains, All-contains_itself}
use Rattle.mark_anchors.proofs.Lists.{read_at, contains_at, contains_from, item_at}
use Rattle.mark_anchors.specs.declared.placed.PlacedMark.{PlacedMark}
use Rattle.mark_places.specs.declared.block.MarkName.{MarkName}
use Rattle.mark_places.specs.declared.ranked.RankedMark.{RankedMark}
use Rattle.mark_places.specs.Ranks.{raised, mark_raised, placed, IsBelow}
use Rattle.mark_places.specs.PlaceRanges.{CoversSome, CoversAny}
use Rattle.mark_places.specs.declared.range.PlaceRange.{PlaceRange}
use Rattle.mark_places.specs.Touching.{IsApart}
use Rattle.mark_places.specs.Blocks.{named, ranked, IsWithin, AreBounded, IsBlock}
use Rattle.mark_places.proofs.Raising.{raised_from, raised_below, raised_between, raised_all, raised_within, contains_map, none_raised, here, there}

pub ranked_size : (offset : ℕ) (names : List MarkName) (starts ends : List ℕ) → length starts ≡ length names → length ends ≡ length names → length (ranked offset names starts ends) ≡ length names
ranked_size offset [] starts ends s e = refl
ranked_size offset (n ∷ names) [] ends s e = absurd (omega arith)
ranked_size offset (n ∷ names) (x ∷ starts) [] s e = absurd (omega arith)
ranked_size offset (n ∷ names) (x ∷ starts) (y ∷ ends) s e = ap suc (ranked_size offset names starts ends (omega arith) (omega arith))

named_as : (n : MarkName) (s s' e e' : ℕ) → s ≡ s' → e ≡ e' → named n s e ≡ named n s' e'
named_as n s s' e e' same also = ap (λ (x : ℕ). named n x e) same ∙ ap (λ (x : ℕ). named n s' x) also

pub ranked_insert : (offset : ℕ) (names : List MarkName) (starts ends : List ℕ) (at : ℕ) (n : MarkName) (s e : ℕ) → at ≤ length names → length starts ≡ length names → length ends ≡ length names
    → ranked offset (insert names at n) (insert starts at s) (insert ends at e) ≡ insert (ranked offset names starts ends) at (named n (offset + s) (offset + e))
ranked_insert offset names starts ends zero n s e low p q = refl
ranked_insert offset [] starts ends (suc at) n s e low p q = absurd (omega arith)
ranked_insert offset (m ∷ names) [] ends (suc at) n s e low p q = absurd (omega arith)
ranked_insert offset (m ∷ names) (x ∷ starts) [] (suc at) n s e low p q = absurd (omega arith)
ranked_insert offset (m ∷ names) (x ∷ starts) (y ∷ ends) (suc at) n s e low p q =
    ap (λ ms. named m (offset + x) (offset + y) ∷ ms) (ranked_insert offset names starts ends at n s e (omega arith) (omega arith) (omega arith))

-- some of the marks
ranked_take : (offset : ℕ) (names : List MarkName) (starts ends : List ℕ) (k : ℕ) → ranked offset (take k names) (take k starts) (take k ends) ≡ take k (ranked offset names starts ends)
ranked_take offset names starts ends zero = refl
ranked_take offset [] starts ends (suc k) = refl
ranked_take offset (n ∷ names) [] ends (suc k) = refl
ranked_take offset (n ∷ names) (x ∷ starts) [] (suc k) = refl
ranked_take offset (n ∷ names) (x ∷ starts) (y ∷ ends) (suc k) = ap (λ ms. named n (offset + x) (offset + y) ∷ ms) (ranked_take offset names starts ends k)

ranked_drop : (offset : ℕ) (names : List MarkName) (starts ends : List ℕ) (k : ℕ) → length starts ≡ length names → length ends ≡ length names
    → ranked offset (drop k names) (drop k starts) (drop k ends) ≡ drop k (ranked offset names starts ends)
ranked_drop offset names starts ends zero s e = refl
ranked_drop offset [] starts ends (suc k) s e = refl
ranked_drop offset (n ∷ names) [] ends (suc k) s e = absurd (omega arith)
ranked_drop offset (n ∷ names) (x ∷ starts) [] (suc k) s e = absurd (omega arith)
ranked_drop offset (n ∷ names) (x ∷ starts) (y ∷ ends) (suc k) s e = ranked_drop offset names starts ends k (omega arith) (omega arith)

pub ranked_part : (offset : ℕ) (names : List MarkName) (starts ends : List ℕ) (first count : ℕ) → length starts ≡ length names → length ends ≡ length names
    → ranked offset (take count (drop first names)) (take count (drop first starts)) (take count (drop first ends)) ≡ take count (drop first (ranked offset names starts ends))
ranked_part offset names starts ends first count s e =
    ranked_take offset (drop first names) (drop first starts) (drop first ends) count ∙ ap (take count) (ranked_drop offset names starts ends first s e)

-- the offset may be added to each rank
pub settled : (offset : ℕ) (names : List MarkName) (starts ends : List ℕ) → ranked 0 names (map (raised 0 offset) starts) (map (raised 0 offset) ends) ≡ ranked offset names starts ends
settled offset [] starts ends = refl
settled offset (n ∷ names) [] ends = refl
settled offset (n ∷ names) (x ∷ starts) [] = refl
settled offset (n ∷ names) (x ∷ starts) (y ∷ ends) =
    let same : named n (0 + raised 0 offset x) (0 + raised 0 offset y) ≡ named n (offset + x) (offset + y) =
    named_as n _ _ _ _ (omega (arith, raised_all offset x)) (omega (arith, raised_all offset y)) in
    ap (λ (m : RankedMark). m ∷ ranked 0 names (map (raised 0 offset) starts) (map (raised 0 offset) ends)) same ∙ ap (λ ms. named n (offset + x) (offset + y) ∷ ms) (settled offset names starts ends)

-- where all ranks move, the offset does
pub all_raised : (offset from by : ℕ) (names : List MarkName) (starts ends : List ℕ) → All (λ m. (from ≤ m.start) × (from ≤ m.end)) (ranked offset names starts ends)
    → ranked (offset + by) names starts ends ≡ map (mark_raised from by) (ranked offset names starts ends)
all_raised offset from by [] starts ends all = refl
all_raised offset from by (n ∷ names) [] ends all = refl
all_raised offset from by (n ∷ names) (x ∷ starts) [] all = refl
all_raised offset from by (n ∷ names) (x ∷ starts) (y ∷ ends) all =
    let P : RankedMark → Type 0 = λ m. (from ≤ m.start) × (from ≤ m.end) in
    let m : RankedMark = named n (offset + x) (offset + y) in
    let high = All-head P m (ranked offset names starts ends) all in
    let same : named n ((offset + by) + x) ((offset + by) + y) ≡ mark_raised from by m =
    named_as n _ _ _ _ (omega (arith, raised_from from by (offset + x) high.0)) (omega (arith, raised_from from by (offset + y) high.1)) in
    ap (λ (z : RankedMark). z ∷ ranked (offset + by) names starts ends) same
    ∙ ap (λ ms. mark_raised from by m ∷ ms) (all_raised offset from by names starts ends (All-tail P m (ranked offset names starts ends) all))

-- else each rank moves or stays
pub some_raised : (offset from by : ℕ) (names : List MarkName) (starts ends : List ℕ) → offset ≤ from
    → ranked offset names (map (raised (from - offset) by) starts) (map (raised (from - offset) by) ends) ≡ map (mark_raised from by) (ranked offset names starts ends)
some_raised offset from by [] starts ends low = refl
some_raised offset from by (n ∷ names) [] ends low = refl
some_raised offset from by (n ∷ names) (x ∷ starts) [] low = refl
some_raised offset from by (n ∷ names) (x ∷ starts) (y ∷ ends) low =
    let less = from - offset in
    let same : named n (offset + raised less by x) (offset + raised less by y) ≡ mark_raised from by (named n (offset + x) (offset + y)) =
    named_as n _ _ _ _ (raised_within offset from by x low) (raised_within offset from by y low) in
    ap (λ (z : RankedMark). z ∷ ranked offset names (map (raised less by) starts) (map (raised less by) ends)) same
    ∙ ap (λ ms. mark_raised from by (named n (offset + x) (offset + y)) ∷ ms) (some_raised offset from by names starts ends low)

-- ---- no number of the lists is large
pub starts_low : (offset least greatest : ℕ) (names : List MarkName) (starts ends : List ℕ) → length starts ≡ length names → length ends ≡ length names
    → All (IsWithin least greatest) (ranked offset names starts ends) → All (λ x. offset + x ≤ greatest) starts
starts_low offset least greatest names [] ends s e all = All-nil (λ x. offset + x ≤ greatest)
starts_low offset least greatest [] (x ∷ starts) ends s e all = absurd (omega arith)
starts_low offset least greatest (n ∷ names) (x ∷ starts) [] s e all = absurd (omega arith)
starts_low offset least greatest (n ∷ names) (x ∷ starts) (y ∷ ends) s e all =
    let m : RankedMark = named n (offset + x) (offset + y) in
    All-cons (λ x. offset + x ≤ greatest) x starts (All-head (IsWithin least greatest) m (ranked offset names starts ends) all).0.1
    (starts_low offset least greatest names starts ends (omega arith) (omega arith) (All-tail (IsWithin least greatest) m (ranked offset names starts ends) all))

pub ends_low : (offset least greatest : ℕ) (names : List MarkName) (starts ends : List ℕ) → length starts ≡ length names → length ends ≡ length names
    → All (IsWithin least greatest) (ranked offset names starts ends) → All (λ x. offset + x ≤ greatest) ends
ends_low offset least greatest names starts [] s e all = All-nil (λ x. offset + x ≤ greatest)
ends_low offset least greatest [] starts (y ∷ ends) s e all = absurd (omega arith)
ends_low offset least greatest (n ∷ names) [] (y ∷ ends) s e all = absurd (omega arith)
ends_low offset least greatest (n ∷ names) (x ∷ starts) (y ∷ ends) s e all =
    let m : RankedMark = named n (offset + x) (offset + y) in
    All-cons (λ x. offset + x ≤ greatest) y ends (All-head (IsWithin least greatest) m (ranked offset names starts ends) all).1.1
    (ends_low offset least greatest names starts ends (omega arith) (omega arith) (All-tail (IsWithin least greatest) m (ranked offset names starts ends) all))

-- ---- bounds
pub insert_bounded : (offset least greatest least' greatest' : ℕ) (marks : List RankedMark) (at : ℕ) (mark : RankedMark) → least' ≡ min (min least mark.start) mark.end → greatest' ≡ max (max greatest mark.start) mark.end
    → IsBelow (2 ^ 31) mark → AreBounded offset least greatest marks → AreBounded 0 least' greatest' (insert marks at mark)
insert_bounded offset least greatest least' greatest' marks at mark low high below are =
    let start = below.0 in
    let end = below.1 in
    let was = are.below in
    let same = IsPermutation-insert marks at mark in
    record {
      from = omega arith;
      below = omega arith;
      within =
          All-permutation (IsWithin least' greatest') (mark ∷ marks) (insert marks at mark) same
          (All-cons (IsWithin least' greatest') mark marks
          ((omega arith, omega arith), (omega arith, omega arith))
          (All-weaker (IsWithin least greatest) (IsWithin least' greatest') (λ m w.
          let a = w.0.0 in
          let b = w.0.1 in
          let c = w.1.0 in
          let d = w.1.1 in
          ((omega arith, omega arith), (omega arith, omega arith))) marks are.within));
      reached =
          ⊎_elim
          (λ (same_greatest : greatest ≡ greatest').
          let r = are.reached in (
            r.0,
            Contains-permutation (mark ∷ marks) (insert marks at mark) r.0 same (there mark marks r.0 r.1),
            ⊎_elim (λ (s : r.0.start ≡ greatest). inl (s ∙ same_greatest)) (λ (e : r.0.end ≡ greatest). inr (e ∙ same_greatest)) r.2,
          ))
          (λ (new : (mark.start ≡ greatest') ⊎ (mark.end ≡ greatest')). (mark, Contains-permutation (mark ∷ marks) (insert marks at mark) mark same (here mark marks), new))
          (⊎_elim
          (λ (l : greatest < greatest').
          inr (⊎_elim (λ (s : mark.start < greatest'). inr (omega arith)) (λ (s : greatest' ≤ mark.start). inl (omega arith)) (cases_lt mark.start greatest')))
          (λ (r : greatest' ≤ greatest). inl (omega arith))
          (cases_lt greatest greatest'));
    }

-- the greatest rank that is moved
greatest_raised : (from by greatest : ℕ) (marks : List RankedMark) → from ≤ greatest → (mark : RankedMark) × Contains marks mark × ((mark.start ≡ greatest) ⊎ (mark.end ≡ greatest))
    → (mark : RankedMark) × Contains (map (mark_raised from by) marks) mark × ((mark.start ≡ greatest + by) ⊎ (mark.end ≡ greatest + by))
greatest_raised from by greatest marks low (mark, held, is) = (
  mark_raised from by mark,
  contains_map (mark_raised from by) marks mark held,
  ⊎_elim
      (λ (s : mark.start ≡ greatest). inl (omega (arith, s, raised_from from by mark.start (omega (arith, s)))))
      (λ (e : mark.end ≡ greatest). inr (omega (arith, e, raised_from from by mark.end (omega (arith, e)))))
      is,
)

pub greatest_below : (offset least greatest from by limit : ℕ) (marks : List RankedMark) → from ≤ greatest → AreBounded offset least greatest marks → All (λ m. IsBelow limit (mark_raised from by m)) marks → greatest + by < limit
greatest_below offset least greatest from by limit marks low are all =
    let r = are.reached in
    let below = All-contains (λ m. IsBelow limit (mark_raised from by m)) marks r.0 all r.1 in
    let start : raised from by r.0.start < limit = below.0 in
    let end : raised from by r.0.end < limit = below.1 in
    ⊎_elim
    (λ (s : r.0.start ≡ greatest). omega (arith, start, raised_from from by r.0.start (omega (arith, s))))
    (λ (e : r.0.end ≡ greatest). omega (arith, end, raised_from from by r.0.end (omega (arith, e))))
    r.2

raised_bounded : (offset least greatest from by offset' least' : ℕ) (marks : List RankedMark) → from ≤ greatest → greatest + by < 2 ^ 31 → offset' ≤ least'
    → ((rank : ℕ) → least ≤ rank → least' ≤ raised from by rank)
    → AreBounded offset least greatest marks → AreBounded offset' least' (greatest + by) (map (mark_raised from by) marks)
raised_bounded offset least greatest from by offset' least' marks low fits order above are = record {
  from = order;
  below = fits;
  within =
      All-map (IsWithin least' (greatest + by)) (mark_raised from by) marks
      (All-weaker (IsWithin least greatest) (λ m. IsWithin least' (greatest + by) (mark_raised from by m)) (λ m w.
      let b = w.0.1 in
      let d = w.1.1 in (
        (above m.start w.0.0, omega (arith, (raised_between from by m.start).1)),
        (above m.end w.1.0, omega (arith, (raised_between from by m.end).1)),
      )) marks are.within);
  reached = greatest_raised from by greatest marks low are.reached;
}

pub all_bounded : (offset least greatest from by : ℕ) (marks : List RankedMark) → from ≤ least → from ≤ greatest → greatest + by < 2 ^ 31 → AreBounded offset least greatest marks
    → AreBounded (offset + by) (least + by) (greatest + by) (map (mark_raised from by) marks)
all_bounded offset least greatest from by marks low high fits are =
    let order = are.from in
    raised_bounded offset least greatest from by (offset + by) (least + by) marks high fits (omega arith)
    (λ rank above. omega (arith, raised_from from by rank (omega arith))) are

pub some_bounded : (offset least greatest from by : ℕ) (marks : List RankedMark) → from ≤ greatest → greatest + by < 2 ^ 31 → AreBounded offset least greatest marks
    → AreBounded offset least (greatest + by) (map (mark_raised from by) marks)
some_bounded offset least greatest from by marks high fits are =
    raised_bounded offset least greatest from by offset least marks high fits are.from
    (λ rank above. omega (arith, (raised_between from by rank).0)) are

-- ---- blocks
pub block_all : (offset least greatest from by : ℕ) (names : List MarkName) (starts ends : List ℕ) → from ≤ least → from ≤ greatest → greatest + by < 2 ^ 31
    → IsBlock offset least greatest names starts ends
    → IsBlock (offset + by) (least + by) (greatest + by) names starts ends × (ranked (offset + by) names starts ends ≡ map (mark_raised from by) (ranked offset names starts ends))
block_all offset least greatest from by names starts ends low high fits is =
    let marks = ranked offset names starts ends in
    let same = all_raised offset from by names starts ends (All-weaker (IsWithin least greatest) (λ m. (from ≤ m.start) × (from ≤ m.end)) (λ m w.
    let a = w.0.0 in
    let c = w.1.0 in
    (omega arith, omega arith)) marks is.bounded.within) in (
      record {
        starts_sized = is.starts_sized;
        ends_sized = is.ends_sized;
        bounded = subst (AreBounded (offset + by) (least + by) (greatest + by)) (sym same) (all_bounded offset least greatest from by marks low high fits is.bounded);
      },
      same,
    )

pub block_some : (offset least greatest from by : ℕ) (names : List MarkName) (starts ends starts' ends' : List ℕ) → least < from → from ≤ greatest → greatest + by < 2 ^ 31
    → starts' ≡ map (raised (from - offset) by) starts → ends' ≡ map (raised (from - offset) by) ends
    → IsBlock offset least greatest names starts ends
    → IsBlock offset least (greatest + by) names starts' ends' × (ranked offset names starts' ends' ≡ map (mark_raised from by) (ranked offset names starts ends))
block_some offset least greatest from by names starts ends starts' ends' low high fits first last is =
    let marks = ranked offset names starts ends in
    let f = raised (from - offset) by in
    let order = is.bounded.from in
    let same : ranked offset names starts' ends' ≡ map (mark_raised from by) marks =
    ap (λ ss. ranked offset names ss ends') first ∙ ap (λ es. ranked offset names (map f starts) es) last ∙ some_raised offset from by names starts ends (omega arith) in (
      record {
        starts_sized = ap length first ∙ length-map starts f ∙ is.starts_sized;
        ends_sized = ap length last ∙ length-map ends f ∙ is.ends_sized;
        bounded = subst (AreBounded offset least (greatest + by)) (sym same) (some_bounded offset least greatest from by marks high fits is.bounded);
      },
      same,
    )

pub block_none : (offset least greatest from by : ℕ) (names : List MarkName) (starts ends : List ℕ) → greatest < from → IsBlock offset least greatest names starts ends
    → map (mark_raised from by) (ranked offset names starts ends) ≡ ranked offset names starts ends
block_none offset least greatest from by names starts ends high is =
    none_raised from by (ranked offset names starts ends) (All-weaker (IsWithin least greatest) (IsBelow from) (λ m w.
    let b = w.0.1 in
    let d = w.1.1 in
    (omega arith, omega arith)) (ranked offset names starts ends) is.bounded.within)

pub block_insert : (offset least greatest least' greatest' : ℕ) (names : List MarkName) (starts ends : List ℕ) (at : ℕ) (name : MarkName) (start end : ℕ) (names' : List MarkName) (starts' ends' : List ℕ)
    → at ≤ length names → least' ≡ min (min least start) end → greatest' ≡ max (max greatest start) end → start < 2 ^ 31 → end < 2 ^ 31
    → names' ≡ insert names at name → starts' ≡ insert (map (raised 0 offset) starts) at start → ends' ≡ insert (map (raised 0 offset) ends) at end
    → IsBlock offset least greatest names starts ends
    → IsBlock 0 least' greatest' names' starts' ends' × (ranked 0 names' starts' ends' ≡ insert (ranked offset names starts ends) at (named name start end))
block_insert offset least greatest least' greatest' names starts ends at name start end names' starts' ends' within low high s e one first last is =
    let marks = ranked offset names starts ends in
    let f = raised 0 offset in
    let starts_sized : length (map f starts) ≡ length names = length-map starts f ∙ is.starts_sized in
    let ends_sized : length (map f ends) ≡ length names = length-map ends f ∙ is.ends_sized in
    let same : ranked 0 names' starts' ends' ≡ insert marks at (named name start end) =
    ap (λ ns. ranked 0 ns starts' ends') one ∙ ap (λ ss. ranked 0 (insert names at name) ss ends') first ∙ ap (λ es. ranked 0 (insert names at name) (insert (map f starts) at start) es) last
    ∙ ranked_insert 0 names (map f starts) (map f ends) at name start end within starts_sized ends_sized
    ∙ ap (λ (m : RankedMark). insert (ranked 0 names (map f starts) (map f ends)) at m) (named_as name (0 + start) start (0 + end) end (omega arith) (omega arith))
    ∙ ap (λ ms. insert ms at (named name start end)) (settled offset names starts ends) in (
      record {
        starts_sized =
            ap length first ∙ length-insert (map f starts) at start (omega (arith, starts_sized)) ∙ omega (arith, ap length one, length-insert names at name within, starts_sized);
        ends_sized =
            ap length last ∙ length-insert (map f ends) at end (omega (arith, ends_sized)) ∙ omega (arith, ap length one, length-insert names at name within, ends_sized);
        bounded = subst (AreBounded 0 least' greatest') (sym same) (insert_bounded offset least greatest least' greatest' marks at (named name start end) low high (s, e) is.bounded);
      },
      same,
    )

pub block_fits : (offset least greatest from by : ℕ) (names : List MarkName) (starts ends : List ℕ) (marks : List RankedMark) → from ≤ greatest → ranked offset names starts ends ≡ marks
    → All (λ m. IsBelow (2 ^ 31) (mark_raised from by m)) marks → IsBlock offset least greatest names starts ends → greatest + by < 2 ^ 31
block_fits offset least greatest from by names starts ends marks low is all block =
    greatest_below offset least greatest from by (2 ^ 31) marks low (subst (AreBounded offset least greatest) is block.bounded) all

-- ---- what is read of a block
pub ranked_read : (offset : ℕ) (names : List MarkName) (starts ends : List ℕ) (i : ℕ) (n : MarkName) (s e : ℕ) → slice_get names i ≡ Some n → slice_get starts i ≡ Some s → slice_get ends i ≡ Some e
    → slice_get (ranked offset names starts ends) i ≡ Some (named n (offset + s) (offset + e))
ranked_read offset [] starts ends i n s e a b c = absurd (none-some n a)
ranked_read offset (m ∷ names) [] ends i n s e a b c = absurd (none-some s b)
ranked_read offset (m ∷ names) (x ∷ starts) [] i n s e a b c = absurd (none-some e c)
ranked_read offset (m ∷ names) (x ∷ starts) (y ∷ ends) zero n s e a b c =
    ap (λ (k : MarkName). Some (named k (offset + x) (offset + y))) (same_Some m n a)
    ∙ ap Some (named_as n (offset + x) (offset + s) (offset + y) (offset + e) (ap (λ k. offset + k) (same_Some x s b)) (ap (λ k. offset + k) (same_Some y e c)))
ranked_read offset (m ∷ names) (x ∷ starts) (y ∷ ends) (suc i) n s e a b c = ranked_read offset names starts ends i n s e a b c

pub block_read : (offset least greatest : ℕ) (names : List MarkName) (starts ends : List ℕ) (i : ℕ) (n : MarkName) (s e : ℕ) (marks : List RankedMark) → IsBlock offset least greatest names starts ends
    → ranked offset names starts ends ≡ marks → i < length marks → n ≡ get_or names i n → s ≡ get_or starts i s → e ≡ get_or ends i e
    → slice_get marks i ≡ Some (named n (offset + s) (offset + e))
block_read offset least greatest names starts ends i n s e marks block is within a b c =
    let size = ranked_size offset names starts ends block.starts_sized block.ends_sized in
    let names_within : i < length names = omega (arith, size, ap length is) in
    let starts_within : i < length starts = omega (arith, names_within, block.starts_sized) in
    let ends_within : i < length ends = omega (arith, names_within, block.ends_sized) in
    ap (λ ms. slice_get ms i) (sym is)
    ∙ ranked_read offset names starts ends i n s e (read_at names i n a names_within) (read_at starts i s b starts_within) (read_at ends i e c ends_within)

-- ---- marks that cover none of the places once they are moved
-- the two bounds, and which ranks reach them once they are moved
module _ (from by low high first last below behind : ℕ) (first_is : first ≡ 2 * min high (2 ^ 30)) (last_is : last ≡ 2 * min low (2 ^ 30) + 2)
    (starting : (rank : ℕ) → (raised from by rank < first) ↔ (rank < below)) (ending : (rank : ℕ) → (raised from by rank < last) ↔ (rank < behind)) where
  mark_apart : (m : RankedMark) → IsBelow (2 ^ 31) (mark_raised from by m) → (m.start < below → m.end < behind) → IsApart low high (mark_raised from by m)
  mark_apart m fits each begins reaches =
      let start : raised from by m.start < 2 ^ 31 = fits.0 in
      let end = (ending m.end).1 (each ((starting m.start).0 (omega arith))) in
      omega (arith, end)

  marks_apart : (marks : List RankedMark) → All (λ m. IsBelow (2 ^ 31) (mark_raised from by m)) marks → All (λ m. m.start < below → m.end < behind) marks
      → All (IsApart low high) (map (mark_raised from by) marks)
  marks_apart [] fits each = All-nil (IsApart low high)
  marks_apart (m ∷ marks) fits each =
      All-cons (IsApart low high) (mark_raised from by m) (map (mark_raised from by) marks)
      (mark_apart m (All-head (λ m. IsBelow (2 ^ 31) (mark_raised from by m)) m marks fits) (All-head (λ m. m.start < below → m.end < behind) m marks each))
      (marks_apart marks (All-tail (λ m. IsBelow (2 ^ 31) (mark_raised from by m)) m marks fits) (All-tail (λ m. m.start < below → m.end < behind) m marks each))

  ranked_between : (offset : ℕ) (names : List MarkName) (starts ends : List ℕ) → ((k : ℕ) → k < length starts → get_or starts k 0 < below - offset → get_or ends k 0 < behind - offset)
      → All (λ m. m.start < below → m.end < behind) (ranked offset names starts ends)
  ranked_between offset [] starts ends each = All-nil (λ m. m.start < below → m.end < behind)
  ranked_between offset (n ∷ names) [] ends each = All-nil (λ m. m.start < below → m.end < behind)
  ranked_between offset (n ∷ names) (x ∷ starts) [] each = All-nil (λ m. m.start < below → m.end < behind)
  ranked_between offset (n ∷ names) (x ∷ starts) (y ∷ ends) each =
      All-cons (λ m. m.start < below → m.end < behind) (named n (offset + x) (offset + y)) (ranked offset names starts ends)
      (λ less. let at : y < behind - offset = each 0 (omega arith) (omega (arith, less)) in omega (arith, at))
      (ranked_between offset names starts ends (λ k less. each (suc k) (omega arith)))

  pub block_between : (offset below' behind' : ℕ) (names : List MarkName) (starts ends firsts lasts : List ℕ) (marks : List RankedMark) → ranked offset names starts ends ≡ marks
      → All (λ m. IsBelow (2 ^ 31) (mark_raised from by m)) marks → below' ≡ below - offset → behind' ≡ behind - offset
      → firsts ≡ starts → lasts ≡ ends → ((k : ℕ) → k < length firsts → get_or firsts k 0 < below' → get_or lasts k 0 < behind')
      → All (IsApart low high) (map (mark_raised from by) marks)
  block_between offset below' behind' names starts ends firsts lasts marks is fits few many same also each =
      let read = subst (λ xs. (k : ℕ) → k < length xs → get_or xs k 0 < below' → get_or lasts k 0 < behind') same each in
      let both = subst (λ ys. (k : ℕ) → k < length starts → get_or starts k 0 < below' → get_or ys k 0 < behind') also read in
      marks_apart marks fits (subst (All (λ m. m.start < below → m.end < behind)) is (ranked_between offset names starts ends
      (λ k less before. let at = both k less (omega (arith, before, few)) in omega (arith, at, many))))

-- ---- a block of lists
ranked_within : (offset low high : ℕ) (names : List MarkName) (starts ends : List ℕ) → All (λ r. (low ≤ r) × (r ≤ high)) starts → All (λ r. (low ≤ r) × (r ≤ high)) ends
    → All (IsWithin (offset + low) (offset + high)) (ranked offset names starts ends)
ranked_within offset low high [] starts ends s e = All-nil (IsWithin (offset + low) (offset + high))
ranked_within offset low high (n ∷ names) [] ends s e = All-nil (IsWithin (offset + low) (offset + high))
ranked_within offset low high (n ∷ names) (x ∷ starts) [] s e = All-nil (IsWithin (offset + low) (offset + high))
ranked_within offset low high (n ∷ names) (x ∷ starts) (y ∷ ends) s e =
    let P : ℕ → Type 0 = λ r. (low ≤ r) × (r ≤ high) in
    let a = All-head P x starts s in
    let b = All-head P y ends e in
    let a0 = a.0 in
    let a1 = a.1 in
    let b0 = b.0 in
    let b1 = b.1 in
    All-cons (IsWithin (offset + low) (offset + high)) (named n (offset + x) (offset + y)) (ranked offset names starts ends)
    ((omega arith, omega arith), (omega arith, omega arith))
    (ranked_within offset low high names starts ends (All-tail P x starts s) (All-tail P y ends e))

module _ (offset : ℕ) (names : List MarkName) (starts ends : List ℕ) (s : length starts ≡ length names) (e : length ends ≡ length names) where
  start_reached : (rank : ℕ) → Contains starts rank → (mark : RankedMark) × Contains (ranked offset names starts ends) mark × (mark.start ≡ offset + rank)
  start_reached rank held =
      let i = contains_at starts rank held in
      let within : i.0 < length starts = slice_get_within starts i.0 rank i.1 in
      let n = item_at names i.0 (omega arith) in
      let y = item_at ends i.0 (omega arith) in
      let m : RankedMark = named n.0 (offset + rank) (offset + y.0) in
      (m, contains_from (ranked offset names starts ends) i.0 m (ranked_read offset names starts ends i.0 n.0 rank y.0 n.1 i.1 y.1), refl)

  end_reached : (rank : ℕ) → Contains ends rank → (mark : RankedMark) × Contains (ranked offset names starts ends) mark × (mark.end ≡ offset + rank)
  end_reached rank held =
      let i = contains_at ends rank held in
      let within : i.0 < length ends = slice_get_within ends i.0 rank i.1 in
      let n = item_at names i.0 (omega arith) in
      let x = item_at starts i.0 (omega arith) in
      let m : RankedMark = named n.0 (offset + x.0) (offset + rank) in
      (m, contains_from (ranked offset names starts ends) i.0 m (ranked_read offset names starts ends i.0 n.0 x.0 rank n.1 x.1 i.1), refl)

  -- the greatest of each list is that of some mark
  pub greatest_low : (rank : ℕ) → All (IsBelow (2 ^ 31)) (ranked offset names starts ends) → Contains starts rank ⊎ Contains ends rank → offset + rank < 2 ^ 31
  greatest_low rank below held =
      ⊎_elim
      (λ (start : Contains starts rank). let r = start_reached rank start in let low = (All-contains (IsBelow (2 ^ 31)) (ranked offset names starts ends) r.0 below r.1).0 in omega (arith, low, r.2))
      (λ (end : Contains ends rank). let r = end_reached rank end in let low = (All-contains (IsBelow (2 ^ 31)) (ranked offset names starts ends) r.0 below r.1).1 in omega (arith, low, r.2))
      held

  pub lists_block : (a b c d least greatest : ℕ) → All (λ r. a ≤ r) starts → All (λ r. b ≤ r) ends → All (λ r. r ≤ c) starts → All (λ r. r ≤ d) ends → Contains starts c → Contains ends d
      → least ≡ offset + min a b → greatest ≡ offset + max c d → All (IsBelow (2 ^ 31)) (ranked offset names starts ends) → IsBlock offset least greatest names starts ends
  lists_block a b c d least greatest sa sb sc sd hc hd low high below =
      let first = greatest_low c below (inl hc) in
      let last = greatest_low d below (inr hd) in
      record {
        starts_sized = s;
        ends_sized = e;
        bounded = record {
          from = omega arith;
          below = ⊎_elim (λ (l : c < d). omega arith) (λ (r : d ≤ c). omega arith) (cases_lt c d);
          within =
              All-weaker (IsWithin (offset + min a b) (offset + max c d)) (IsWithin least greatest) (λ m w.
              let w00 = w.0.0 in
              let w01 = w.0.1 in
              let w10 = w.1.0 in
              let w11 = w.1.1 in
              ((subst (λ l. l ≤ m.start) (sym low) w00, subst (λ g. m.start ≤ g) (sym high) w01), (subst (λ l. l ≤ m.end) (sym low) w10, subst (λ g. m.end ≤ g) (sym high) w11)))
              (ranked offset names starts ends)
              (ranked_within offset (min a b) (max c d) names starts ends
              (λ i x less. let l = sa i x less in let g = sc i x less in (omega (arith, l), omega (arith, g)))
              (λ i x less. let l = sb i x less in let g = sd i x less in (omega (arith, l), omega (arith, g))));
          reached =
              ⊎_elim
              (λ (l : c < d). let r = end_reached d hd in (r.0, r.1, inr (omega (arith, r.2))))
              (λ (l : d ≤ c). let r = start_reached c hc in (r.0, r.1, inl (omega (arith, r.2))))
              (cases_lt c d);
        };
      }

-- the lists may be copies
pub copied_block : (offset least greatest : ℕ) (names names' : List MarkName) (starts starts' ends ends' : List ℕ) → names' ≡ names → starts' ≡ starts → ends' ≡ ends → IsBlock offset least greatest names starts ends
    → IsBlock offset least greatest names' starts' ends'
copied_block offset least greatest names names' starts starts' ends ends' n s e is =
    subst (λ x. IsBlock offset least greatest x starts' ends') (sym n) (subst (λ x. IsBlock offset least greatest names x ends') (sym s) (subst (IsBlock offset least greatest names starts) (sym e) is))

pub copied_marks : (offset : ℕ) (names names' : List MarkName) (starts starts' ends ends' : List ℕ) → names' ≡ names → starts' ≡ starts → ends' ≡ ends → ranked offset names' starts' ends' ≡ ranked offset names starts ends
copied_marks offset names names' starts starts' ends ends' n s e =
    ap (λ x. ranked offset x starts' ends') n ∙ ap (λ x. ranked offset names x ends') s ∙ ap (ranked offset names starts) e

pub one_mark : (mark : RankedMark) (name : MarkName) → name ≡ record { index = mark.index; id = mark.id; key = mark.key } → ranked 0 (name ∷ []) (mark.start ∷ []) (mark.end ∷ []) ≡ mark ∷ []
one_mark mark name is =
    ap (λ (n : MarkName). named n (0 + mark.start) (0 + mark.end) ∷ []) is
    ∙ ap (λ (m : RankedMark). m ∷ []) (named_as (record { index = mark.index; id = mark.id; key = mark.key }) (0 + mark.start) mark.start (0 + mark.end) mark.end (omega arith) (omega arith))

-- ranks of some of the marks are below the limit as well
all_take : (P : RankedMark → Type 0) (xs : List RankedMark) (k : ℕ) → All P xs → All P (take k xs)
all_take P xs zero all = All-nil P
all_take P [] (suc k) all = All-nil P
all_take P (x ∷ xs) (suc k) all = All-cons P x (take k xs) (All-head P x xs all) (all_take P xs k (All-tail P x xs all))

all_drop : (P : RankedMark → Type 0) (xs : List RankedMark) (k : ℕ) → All P xs → All P (drop k xs)
all_drop P xs zero all = all
all_drop P [] (suc k) all = All-nil P
all_drop P (x ∷ xs) (suc k) all = all_drop P xs k (All-tail P x xs all)

pub part_below : (offset least greatest : ℕ) (names : List MarkName) (starts ends : List ℕ) (first count : ℕ) → IsBlock offset least greatest names starts ends
    → All (IsBelow (2 ^ 31)) (ranked offset (take count (drop first names)) (take count (drop first starts)) (take count (drop first ends)))
part_below offset least greatest names starts ends first count is =
    let marks = ranked offset names starts ends in
    let limit = is.bounded.below in
    subst (All (IsBelow (2 ^ 31))) (sym (ranked_part offset names starts ends first count is.starts_sized is.ends_sized))
    (all_take (IsBelow (2 ^ 31)) (drop first marks) count (all_drop (IsBelow (2 ^ 31)) marks first
    (All-weaker (IsWithin least greatest) (IsBelow (2 ^ 31)) (λ m w.
    let b = w.0.1 in
    let d = w.1.1 in
    (omega arith, omega arith)) marks is.bounded.within)))

-- ---- the places of a block's marks
both_all : {X : Type 0} (P Q : X → Type 0) (xs : List X) → All P xs → All Q xs → All (λ x. P x × Q x) xs
both_all P Q xs p q i x less = (p i x less, q i x less)

raised_order : (from by a b : ℕ) → a ≤ b → raised from by a ≤ raised from by b
raised_order from by a b low =
    ⊎_elim
    (λ (below : a < from). omega (arith, raised_below from by a below, (raised_between from by b).0))
    (λ (high : from ≤ a). omega (arith, raised_from from by a high, raised_from from by b (omega arith)))
    (cases_lt a from)

module _ (from by : ℕ) (ranges : List PlaceRange) (offset least greatest : ℕ) (names : List MarkName) (starts ends : List ℕ) (marks : List RankedMark)
    (is : ranked offset names starts ends ≡ marks) (block : IsBlock offset least greatest names starts ends) where
  within_places : All (λ m. ((raised from by least / 2 ≤ raised from by m.start / 2) × (raised from by m.end / 2 ≤ raised from by greatest / 2))) marks
  within_places =
      All-weaker (IsWithin least greatest) (λ m. ((raised from by least / 2 ≤ raised from by m.start / 2) × (raised from by m.end / 2 ≤ raised from by greatest / 2))) (λ m w.
      let low = raised_order from by least m.start w.0.0 in
      let high = raised_order from by m.end greatest w.1.1 in
      (omega (arith, low), omega (arith, high))) marks (subst (All (IsWithin least greatest)) is block.bounded.within)

  -- no mark covers a place of the ranges if none covers one of the hull of those that matter
  pub ranges_apart : (hull : Option PlaceRange) (low high : ℕ) → low ≡ raised from by least / 2 → high ≡ raised from by greatest / 2
      → ((mark : PlacedMark) → low ≤ mark.start → mark.end ≤ high → CoversAny ranges mark → (h : PlaceRange) × (hull ≡ Some h) × CoversSome h mark)
      → ((h : PlaceRange) → hull ≡ Some h → All (IsApart h.low h.high) (map (mark_raised from by) marks))
      → All (λ m. CoversAny ranges (placed m) → ⊥) (map (mark_raised from by) marks)
  ranges_apart hull low high l g matter apart =
      All-map (λ m. CoversAny ranges (placed m) → ⊥) (mark_raised from by) marks
      (All-weaker (λ m. Contains marks m × ((raised from by least / 2 ≤ raised from by m.start / 2) × (raised from by m.end / 2 ≤ raised from by greatest / 2)))
      (λ m. CoversAny ranges (placed (mark_raised from by m)) → ⊥)
      (λ m w covers.
      let w0 = w.1.0 in
      let w1 = w.1.1 in
      let r = matter (placed (mark_raised from by m)) (omega (arith, l, w0)) (omega (arith, g, w1)) covers in
      All-contains (IsApart r.0.low r.0.high) (map (mark_raised from by) marks) (mark_raised from by m) (apart r.0 r.1) (contains_map (mark_raised from by) marks m w.0)
      r.2.before r.2.behind)
      marks (both_all (Contains marks) (λ m. ((raised from by least / 2 ≤ raised from by m.start / 2) × (raised from by m.end / 2 ≤ raised from by greatest / 2))) marks (All-contains_itself marks) within_places))
