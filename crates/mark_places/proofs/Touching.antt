-- The marks that cover some of the places of ranges.
use Rattle.std.proofs.Common.{◌≡◌, ℕ, ◌+◌, ◌<◌, ◌++◌, ◌||◌, List, [], ◌∷◌, Bool, true, false, Some, cond, map, filter, take, append_assoc, length, refl, sym, ap, ◌∙◌, ⊎_elim, All}
use Rattle.std.specs.List.{slice_get, flat_map, list_any}
use Rattle.std.proofs.lemmas.Bool.{cases_Bool, ltb-true, lt-ltb, and_parts, and_from, false≢true}
use Rattle.std.proofs.lemmas.Option.{slice_get_within, get_or_from_slice_get}
use Rattle.std.proofs.lemmas.List.{map-append, take_more}
use Rattle.std.proofs.lemmas.List.Folds.{list_any_at}
use Rattle.std.proofs.lemmas.List.Elements.{All-head, All-tail, filter-append}
use Rattle.mark_anchors.specs.declared.placed.PlacedMark.{PlacedMark}
use Rattle.mark_places.specs.MarkPlace.{MarkPlace}
use Rattle.mark_places.specs.PlaceRanges.{CoversSome, CoversAny}
use Rattle.mark_places.specs.Ranks.{placed, place_of}
use Rattle.mark_places.specs.Touching.{touches, touching}
use Rattle.mark_places.specs.declared.range.PlaceRange.{PlaceRange}
use Rattle.mark_places.specs.declared.ranked.RankedMark.{RankedMark}
use Rattle.mark_places.proofs.Joined.{joined_more}
use Rattle.mark_places.proofs.Raising.{here, there}

-- ---- the test says whether a place is covered
some_covered : (mark : PlacedMark) (range : PlaceRange) → touches mark range ≡ true → CoversSome range mark
some_covered mark range passes =
    let parts = and_parts _ _ passes in
    let both = and_parts _ _ parts.0 in
    record { before = ltb-true mark.start range.high both.0; behind = ltb-true range.low mark.end both.1; some = ltb-true mark.start mark.end parts.1 }

pub any_covered : (mark : PlacedMark) (ranges : List PlaceRange) → list_any (touches mark) ranges ≡ true → CoversAny ranges mark
any_covered mark [] passes = absurd (false≢true passes)
any_covered mark (range ∷ ranges) passes =
    ⊎_elim
    (λ (first : touches mark range ≡ true). (range, here range ranges, some_covered mark range first))
    (λ (later : touches mark range ≡ false).
    let r = any_covered mark ranges (sym (ap (λ b. b || list_any (touches mark) ranges) later) ∙ passes) in
    (r.0, there range ranges r.0 r.1, r.2))
    (cases_Bool (touches mark range))

pub covered_passes : (mark : PlacedMark) (ranges : List PlaceRange) → CoversAny ranges mark → list_any (touches mark) ranges ≡ true
covered_passes mark ranges (range, held, covers) =
    list_any_at (touches mark) ranges held.0 range held.1
    (ap (touches mark) held.2 ∙ and_from _ _ (and_from _ _ (lt-ltb mark.start range.high covers.before) (lt-ltb range.low mark.end covers.behind)) (lt-ltb mark.start mark.end covers.some))

pub none_passes : (mark : PlacedMark) (ranges : List PlaceRange) → (CoversAny ranges mark → ⊥) → list_any (touches mark) ranges ≡ false
none_passes mark ranges none =
    ⊎_elim
    (λ (yes : list_any (touches mark) ranges ≡ true). absurd (none (any_covered mark ranges yes)))
    (λ (no : list_any (touches mark) ranges ≡ false). no)
    (cases_Bool (list_any (touches mark) ranges))

-- ---- those that pass it
module _ (ranges : List PlaceRange) where
  touching_append : (xs ys : List MarkPlace) → touching ranges (xs ++ ys) ≡ touching ranges xs ++ touching ranges ys
  touching_append xs ys =
      ap (filter (λ mark. list_any (touches mark) ranges)) (map-append (λ (p : MarkPlace). p.mark) xs ys)
      ∙ filter-append (λ mark. list_any (touches mark) ranges) (map (λ (p : MarkPlace). p.mark) xs) (map (λ (p : MarkPlace). p.mark) ys)

  touching_joined : (xs ys : List RankedMark) → touching ranges (map place_of (xs ++ ys)) ≡ touching ranges (map place_of xs) ++ touching ranges (map place_of ys)
  touching_joined xs ys = ap (touching ranges) (map-append place_of xs ys) ∙ touching_append (map place_of xs) (map place_of ys)

  touching_more : (marks : List RankedMark) (i : ℕ) (m : RankedMark) → slice_get marks i ≡ Some m
      → touching ranges (map place_of (take (i + 1) marks)) ≡ touching ranges (map place_of (take i marks)) ++ cond (list_any (touches (placed m)) ranges) (placed m ∷ []) []
  touching_more marks i m at =
      let within : i < length marks = slice_get_within marks i m at in
      let more : take (i + 1) marks ≡ take i marks ++ m ∷ [] = take_more marks i m within ∙ ap (λ x. take i marks ++ x ∷ []) (get_or_from_slice_get marks i m m at) in
      ap (λ xs. touching ranges (map place_of xs)) more ∙ touching_joined (take i marks) (m ∷ [])

  pub touching_none : (marks : List RankedMark) → All (λ m. CoversAny ranges (placed m) → ⊥) marks → touching ranges (map place_of marks) ≡ []
  touching_none [] all = refl
  touching_none (m ∷ marks) all =
      let P : RankedMark → Type 0 = λ m. CoversAny ranges (placed m) → ⊥ in
      let rest = touching ranges (map place_of marks) in
      ap (λ b. cond b (placed m ∷ rest) rest) (none_passes (placed m) ranges (All-head P m marks all))
      ∙ touching_none marks (All-tail P m marks all)

  -- block after block
  pub touching_blocks : (f : RankedMark → RankedMark) (blocks : List (List RankedMark)) (i : ℕ) (b : List RankedMark) → slice_get blocks i ≡ Some b
      → touching ranges (map place_of (map f (flat_map (λ b. b) (take (i + 1) blocks))))
      ≡ touching ranges (map place_of (map f (flat_map (λ b. b) (take i blocks)))) ++ touching ranges (map place_of (map f b))
  touching_blocks f blocks i b at =
      let front = flat_map (λ b. b) (take i blocks) in
      ap (λ ms. touching ranges (map place_of (map f ms))) (joined_more blocks i b at)
      ∙ ap (λ ms. touching ranges (map place_of ms)) (map-append f front b)
      ∙ touching_joined (map f front) (map f b)

  -- one mark more of a block, which was read and tested
  pub gather_more : (marks : List RankedMark) (i : ℕ) (m : RankedMark) (mark : PlacedMark) (old before after : List PlacedMark) (is : Bool) → slice_get marks i ≡ Some m → mark ≡ placed m
      → list_any (touches mark) ranges ≡ is → after ≡ before ++ cond is (mark ∷ []) [] → before ≡ old ++ touching ranges (map place_of (take i marks))
      → after ≡ old ++ touching ranges (map place_of (take (i + 1) marks))
  gather_more marks i m mark old before after is at same tested added was =
      let T : List PlacedMark = touching ranges (map place_of (take i marks)) in
      let one : cond is (mark ∷ []) [] ≡ cond (list_any (touches (placed m)) ranges) (placed m ∷ []) [] =
      ap (λ b. cond b (mark ∷ []) []) (sym tested) ∙ ap (λ (x : PlacedMark). cond (list_any (touches x) ranges) (x ∷ []) []) same in
      added ∙ ap (λ xs. xs ++ cond is (mark ∷ []) []) was ∙ append_assoc old T (cond is (mark ∷ []) []) ∙ ap (λ xs. old ++ (T ++ xs)) one
      ∙ ap (λ xs. old ++ xs) (sym (touching_more marks i m at))
