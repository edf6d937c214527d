-- Marks painted over places, one after another.
use Rattle.std.proofs.Common.{◌≡◌, ◌≢◌, ℕ, ◌+◌, ◌<◌, ◌≤◌, ◌↔◌, List, [], ◌∷◌, ◌++◌, Option, Some, None, ◌⊎◌, inl, inr, length, get_or, sym, ap, refl, ◌∙◌, subst, ⊎_elim, arith, Bor}
use Rattle.std.specs.List.{slice_get, Contains}
use Rattle.std.proofs.Math.ListN.{set}
use Rattle.std.proofs.lemmas.List.{length-set}
use Rattle.std.specs.List.Sorted.{IsStrictlyIncreasing, IsBinarySearchResult, IsSortedByKey}
use Rattle.std.specs.Ordering.{nat_cmp}
use Rattle.std.specs.declared.result.Result.TheVariants.{Ok, Err}
use Rattle.std.specs.Option.{option_copied}
use Rattle.std.specs.Slice.{IsItemAt}
use Rattle.std.proofs.lemmas.Bool.{cases_lt, cases_eq, false≢true, ltb-true, lt-ltb}
use Rattle.std.proofs.lemmas.List.Elements.{Contains-append_left, Contains-push, Contains-push_cases}
use Rattle.std.proofs.lemmas.List.Kept.{AllPairs-from_increasing}
use Rattle.std.proofs.lemmas.List.Sorted.{searched}
use Rattle.std.proofs.lemmas.Option.{same_Some, none-some, slice_get_within, slice_get_past, slice_get_read, get_or_from_slice_get}
use Rattle.change_ops.specs.Ids.{Less, id_cmp}
use Rattle.char_sequence.proofs.Ids.{less_irrefl}
use Rattle.char_sequence.proofs.Lists.{slice_get_set_same, slice_get_set_other}
use Rattle.mark_anchors.specs.Placed.{CoversPlace, IsBest}
use Rattle.mark_anchors.specs.KeyMarks.{AreById, IsEndOf, IsCountBelow, IsCountUpTo, ArePainted, AreOver, numbered, ArePaintedFrom, IsLast, IsFree, NoneFree, AreJumpsOver}
use Rattle.mark_anchors.specs.declared.placed.PlacedMark.{PlacedMark}
use Rattle.mark_anchors.proofs.IdOrder.{never_falls}
use Rattle.mark_anchors.proofs.Lists.{contains_at, contains_from, item_at}

-- ---- how many places are before one
pub ascending : (xs : List ℕ) → IsStrictlyIncreasing xs → (i j : ℕ) → i ≤ j → j < length xs → get_or xs i 0 ≤ get_or xs j 0
ascending xs rising i j le within =
    ⊎_elim
    (λ (less : i < j). let low : get_or xs i 0 < get_or xs j 0 = AllPairs-from_increasing xs rising i j 0 less within in omega arith)
    (λ (ge : j ≤ i). let same : i ≡ j = omega arith in let eq : get_or xs i 0 ≡ get_or xs j 0 = ap (λ k. get_or xs k 0) same in omega arith)
    (cases_lt i j)

pub below_found : (xs : List ℕ) → IsStrictlyIncreasing xs → (x n : ℕ) → n < length xs → get_or xs n 0 ≡ x → IsCountBelow xs x n
below_found xs rising x n within is j y at =
    let here : get_or xs j 0 ≡ y = get_or_from_slice_get xs j y 0 at in
    let inside : j < length xs = slice_get_within xs j y at in (
      λ less. let low : get_or xs j 0 < get_or xs n 0 = AllPairs-from_increasing xs rising j n 0 less within in omega arith,
      λ less.
          ⊎_elim
          (λ (l : j < n). l)
          (λ (ge : n ≤ j). let high : get_or xs n 0 ≤ get_or xs j 0 = ascending xs rising n j ge inside in absurd (omega arith))
          (cases_lt j n),
    )

pub below_gap : (xs : List ℕ) (x n : ℕ) → ((k : ℕ) → k < n → get_or xs k 0 < x) → ((k : ℕ) → n ≤ k → k < length xs → x < get_or xs k 0) → IsCountBelow xs x n
below_gap xs x n low high j y at =
    let here : get_or xs j 0 ≡ y = get_or_from_slice_get xs j y 0 at in
    let inside : j < length xs = slice_get_within xs j y at in (
      λ less. let l : get_or xs j 0 < x = low j less in omega arith,
      λ less.
          ⊎_elim
          (λ (l : j < n). l)
          (λ (ge : n ≤ j). let h : x < get_or xs j 0 = high j ge inside in absurd (omega arith))
          (cases_lt j n),
    )

pub found : (xs : List ℕ) → IsStrictlyIncreasing xs → (x : ℕ) → (n : ℕ) → IsBinarySearchResult (λ y. nat_cmp y x) xs (Ok n) → IsCountBelow xs x n
found xs rising x n is = let r = searched xs x (Ok n) is (ascending xs rising) in below_found xs rising x n r.0 r.1

pub gap : (xs : List ℕ) → IsStrictlyIncreasing xs → (x : ℕ) → (n : ℕ) → IsBinarySearchResult (λ y. nat_cmp y x) xs (Err n) → IsCountBelow xs x n
gap xs rising x n is = let r = searched xs x (Err n) is (ascending xs rising) in below_gap xs x n r.1 r.2

-- ---- marks by their ids
pub by_id_from_sort : (marks : List PlacedMark) → IsSortedByKey (λ (p : PlacedMark). p.id) id_cmp marks → AreById marks
by_id_from_sort marks sorted = never_falls (λ (p : PlacedMark). p.id) marks sorted

-- ---- one mark more, below those that are painted
-- where there was no number, from one index up to another, is this number, and the others are as they were
pub record IsFilled (old new : List (Option ℕ)) (from upto to number : ℕ) : Type 0 where
  pub sized : length new ≡ length old
  pub within : (j : ℕ) → from ≤ j → j < upto → slice_get old j ≡ Some None → j < to
  pub inside : (j : ℕ) → from ≤ j → j < upto → slice_get old j ≡ Some None → slice_get new j ≡ Some (Some number)
  pub kept : (j n : ℕ) → slice_get old j ≡ Some (Some n) → slice_get new j ≡ Some (Some n)
  pub before : (j : ℕ) → j < from → slice_get new j ≡ slice_get old j
  pub behind : (j : ℕ) → upto ≤ j → slice_get new j ≡ slice_get old j

pub filled_none : (old : List (Option ℕ)) (from to number : ℕ) → IsFilled old old from from to number
filled_none old from to number = record {
  sized = refl;
  within = λ j low high none. absurd (omega arith);
  inside = λ j low high none. absurd (omega arith);
  kept = λ j n is. is;
  before = λ j less. refl;
  behind = λ j ge. refl;
}

-- up to the next free index there is nothing to fill
pub filled_on : (jumps : List ℕ) (old new : List (Option ℕ)) (from upto next to number : ℕ) → AreJumpsOver jumps new → NoneFree jumps upto next → upto ≤ next → IsFilled old new from upto to number → IsFilled old new from next to number
filled_on jumps old new from upto next to number over none low f =
    let taken = λ (j : ℕ) (ge : upto ≤ j) (less : j < next) (is : slice_get old j ≡ Some None).
    none j ge less ((over.free j (slice_get_within new j None (f.behind j ge ∙ is))).1 (f.behind j ge ∙ is)) in
    record {
      sized = f.sized;
      within =
          λ j a b is.
          ⊎_elim
          (λ (less : j < upto). f.within j a less is)
          (λ (ge : upto ≤ j). absurd (taken j ge b is))
          (cases_lt j upto);
      inside =
          λ j a b is.
          ⊎_elim
          (λ (less : j < upto). f.inside j a less is)
          (λ (ge : upto ≤ j). absurd (taken j ge b is))
          (cases_lt j upto);
      kept = f.kept;
      before = f.before;
      behind = λ j ge. f.behind j (omega arith);
    }

-- the index that is free gets the number
pub filled_more : (jumps : List ℕ) (old new : List (Option ℕ)) (from upto to number : ℕ) → AreJumpsOver jumps new → IsFree jumps upto → upto < to → from ≤ upto → upto < length new → IsFilled old new from upto to number → IsFilled old (set new upto (Some number)) from (upto + 1) to number
filled_more jumps old new from upto to number over free next low inside f =
    let none : slice_get old upto ≡ Some None = sym (f.behind upto (omega arith)) ∙ (over.free upto inside).0 free in
    let there : slice_get (set new upto (Some number)) upto ≡ Some (Some number) = slice_get_set_same new upto (Some number) inside in
    record {
      sized = length-set new upto (Some number) ∙ f.sized;
      within =
          λ j a b is.
          ⊎_elim
          (λ (less : j < upto). f.within j a less is)
          (λ (ge : upto ≤ j). omega arith)
          (cases_lt j upto);
      inside =
          λ j a b is.
          ⊎_elim
          (λ (less : j < upto). slice_get_set_other new upto j (Some number) (λ same. absurd (omega arith)) ∙ f.inside j a less is)
          (λ (ge : upto ≤ j). let same : j ≡ upto = omega arith in ap (slice_get (set new upto (Some number))) same ∙ there)
          (cases_lt j upto);
      kept =
          λ j n is.
          slice_get_set_other new upto j (Some number) (λ same. none-some n (same_Some None (Some n) (sym none ∙ ap (slice_get old) (sym same) ∙ is))) ∙ f.kept j n is;
      before = λ j less. slice_get_set_other new upto j (Some number) (λ same. absurd (omega arith)) ∙ f.before j less;
      behind = λ j ge. slice_get_set_other new upto j (Some number) (λ same. absurd (omega arith)) ∙ f.behind j (omega arith);
    }

number_cases : (numbers : List (Option ℕ)) (j : ℕ) → j < length numbers → (slice_get numbers j ≡ Some None) ⊎ ((n : ℕ) × (slice_get numbers j ≡ Some (Some n)))
number_cases numbers j less = let it = item_at numbers j less in cases it.0 it.1
  where
    cases : (x : Option ℕ) → slice_get numbers j ≡ Some x → (slice_get numbers j ≡ Some None) ⊎ ((n : ℕ) × (slice_get numbers j ≡ Some (Some n)))
    cases None is = inl is
    cases (Some n) is = inr (n, is)

-- no mark has a number as great as their count
pub painted_none : (places : List ℕ) (marks : List PlacedMark) (numbers : List (Option ℕ)) → length numbers ≡ length places → ((j : ℕ) → j < length numbers → slice_get numbers j ≡ Some None) → ArePaintedFrom places marks (length marks) numbers
painted_none places marks numbers sized none = record {
  sized = sized;
  without = λ j place there is i m ge at covers. let less : i < length marks = slice_get_within marks i m at in absurd (omega arith);
  last = λ j place number there is. absurd (none-some number (same_Some None (Some number) (sym (none j (slice_get_within numbers j (Some number) is)) ∙ is)));
}

module _ (places : List ℕ) (marks : List PlacedMark) (old new : List (Option ℕ)) (from upto to k : ℕ) (mark : PlacedMark)
    (at : slice_get marks k ≡ Some mark) (starts : IsCountBelow places mark.start from) (ends : IsCountBelow places mark.end to)
    (filled : IsFilled old new from upto to k) (whole : to ≤ upto) (painted : ArePaintedFrom places marks (k + 1) old) where
  -- an index without a number had none
  none_old : (j : ℕ) → slice_get new j ≡ Some None → slice_get old j ≡ Some None
  none_old j is =
      let within : j < length new = slice_get_within new j None is in
      let sized : length new ≡ length old = filled.sized in
      ⊎_elim
      (λ (none : slice_get old j ≡ Some None). none)
      (λ (some : (n : ℕ) × (slice_get old j ≡ Some (Some n))). absurd (none-some some.0 (same_Some None (Some some.0) (sym is ∙ filled.kept j some.0 some.1))))
      (number_cases old j (omega arith))

  uncovered : (j place : ℕ) → slice_get places j ≡ Some place → slice_get new j ≡ Some None → CoversPlace mark place → ⊥
  uncovered j place there is covers =
      let late : j < to = (ends j place there).1 covers.1 in
      ⊎_elim
      (λ (less : j < from). let early : place < mark.start = (starts j place there).0 less in let begun : mark.start ≤ place = covers.0 in absurd (omega arith))
      (λ (ge : from ≤ j). none-some k (same_Some None (Some k) (sym is ∙ filled.inside j ge (omega arith) (none_old j is))))
      (cases_lt j from)

  covered : (j place : ℕ) → slice_get places j ≡ Some place → from ≤ j → j < to → CoversPlace mark place
  covered j place there low high = (
    ⊎_elim
        (λ (less : place < mark.start). let early : j < from = (starts j place there).1 less in absurd (omega arith))
        (λ (ge : mark.start ≤ place). ge)
        (cases_lt place mark.start),
    (ends j place there).0 high,
  )

  -- a number where there was none
  on_bottom : (j place number : ℕ) → slice_get places j ≡ Some place → slice_get new j ≡ Some (Some number) → slice_get old j ≡ Some None → IsLast marks place number
  on_bottom j place number there is none =
      let unchanged = λ (same : slice_get new j ≡ slice_get old j). none-some number (same_Some None (Some number) (sym none ∙ sym same ∙ is)) in
      ⊎_elim
      (λ (less : j < from). absurd (unchanged (filled.before j less)))
      (λ (ge : from ≤ j).
      ⊎_elim
      (λ (less : j < upto).
      let numbered : k ≡ number = same_Some k number (same_Some (Some k) (Some number) (sym (filled.inside j ge less none) ∙ is)) in
      subst (λ n. IsLast marks place n) numbered (mark, at, covered j place there ge (filled.within j ge less none), painted.without j place there none))
      (λ (past : upto ≤ j). absurd (unchanged (filled.behind j past)))
      (cases_lt j upto))
      (cases_lt j from)

  pub painted_more : ArePaintedFrom places marks k new
  painted_more = record {
    sized = filled.sized ∙ painted.sized;
    without =
        λ j place there is i m ge g covers.
        ⊎_elim
        (λ (same : i ≡ k).
        let one : mark ≡ m = same_Some mark m (sym at ∙ ap (slice_get marks) (sym same) ∙ g) in
        uncovered j place there is (subst (λ z. CoversPlace z place) (sym one) covers))
        (λ (other : i ≢ k). painted.without j place there (none_old j is) i m (omega arith) g covers)
        (cases_eq i k);
    last =
        λ j place number there is.
        let within : j < length new = slice_get_within new j (Some number) is in
        let sized : length new ≡ length old = filled.sized in
        ⊎_elim
        (λ (none : slice_get old j ≡ Some None). on_bottom j place number there is none)
        (λ (some : (n : ℕ) × (slice_get old j ≡ Some (Some n))).
        painted.last j place number there (some.1 ∙ sym (filled.kept j some.0 some.1) ∙ is))
        (number_cases old j (omega arith));
  }

-- the last of the marks by rising ids that cover a place is the one with the greatest id
pub painted_all : (places : List ℕ) (marks : List PlacedMark) (numbers : List (Option ℕ)) → AreById marks → ArePaintedFrom places marks 0 numbers → ArePainted places marks (length marks) numbers
painted_all places marks numbers ids painted = record { sized = painted.sized; best = best }
  where
    best : (j place : ℕ) (number : Option ℕ) → slice_get places j ≡ Some place → slice_get numbers j ≡ Some number → IsBest marks place (length marks) (numbered marks number)
    best j place None there is = λ i m less at covers. painted.without j place there is i m (omega arith) at covers
    best j place (Some number) there is =
        let last = painted.last j place number there is in
        let b : PlacedMark = last.0 in
        subst (IsBest marks place (length marks)) (sym last.1)
        (record {
          at = (number, last.1);
          covers = last.2;
          greatest =
              λ i m less at covers.
              ⊎_elim
              (λ (low : i < number). ids i number m b low at last.1)
              (λ (ge : number ≤ i).
              ⊎_elim
              (λ (same : i ≡ number). let one : b ≡ m = same_Some b m (sym last.1 ∙ ap (slice_get marks) (sym same) ∙ at) in subst (λ z. Less b.id z.id → ⊥) one (less_irrefl b.id))
              (λ (other : i ≢ number). absurd (last.3 i m (omega arith) at covers))
              (cases_eq i number))
              (cases_lt i number);
        })

-- ---- reading
pub copied_from_get : {X : Type 0} (xs : List X) (i : ℕ) (r : Option (Bor X)) → IsItemAt xs i r → option_copied r ≡ slice_get xs i
copied_from_get xs i None is =
    ⊎_elim
    (λ (less : i < length xs). absurd (false≢true (is.0 ∙ lt-ltb i (length xs) less)))
    (λ (ge : length xs ≤ i). sym (slice_get_past xs i ge))
    (cases_lt i (length xs))
copied_from_get xs i (Some r) is = sym (slice_get_read xs (length xs) i r.now refl (ltb-true i (length xs) (sym is.0)) is.1)

pub found_up_to : (xs : List ℕ) → IsStrictlyIncreasing xs → (x n : ℕ) → IsBinarySearchResult (λ y. nat_cmp y x) xs (Ok n) → IsCountUpTo xs x (n + 1)
found_up_to xs rising x n is j y at =
    let r = searched xs x (Ok n) is (ascending xs rising) in
    let within : n < length xs = r.0 in
    let there : get_or xs n 0 ≡ x = r.1 in
    let here : get_or xs j 0 ≡ y = get_or_from_slice_get xs j y 0 at in
    let inside : j < length xs = slice_get_within xs j y at in (
      λ less. let low : get_or xs j 0 ≤ get_or xs n 0 = ascending xs rising j n (omega arith) within in omega arith,
      λ le.
          ⊎_elim
          (λ (late : n < j). let high : get_or xs n 0 < get_or xs j 0 = AllPairs-from_increasing xs rising n j 0 late inside in absurd (omega arith))
          (λ (early : j ≤ n). omega arith)
          (cases_lt n j),
    )

pub gap_up_to : (xs : List ℕ) → IsStrictlyIncreasing xs → (x n : ℕ) → IsBinarySearchResult (λ y. nat_cmp y x) xs (Err n) → IsCountUpTo xs x n
gap_up_to xs rising x n is j y at =
    let r = searched xs x (Err n) is (ascending xs rising) in
    let here : get_or xs j 0 ≡ y = get_or_from_slice_get xs j y 0 at in
    let inside : j < length xs = slice_get_within xs j y at in (
      λ less. let low : get_or xs j 0 < x = r.1 j less in omega arith,
      λ le.
          ⊎_elim
          (λ (l : j < n). l)
          (λ (ge : n ≤ j). let high : x < get_or xs j 0 = r.2 j ge inside in absurd (omega arith))
          (cases_lt j n),
    )

-- ---- from the places at which marks begin and end to all places
best_moves : (marks : List PlacedMark) (x place n : ℕ) (best : Option PlacedMark) → ((m : PlacedMark) → Contains marks m → CoversPlace m x ↔ CoversPlace m place) → IsBest marks x n best → IsBest marks place n best
best_moves marks x place n None same none = λ i p l g covers. none i p l g ((same p (contains_from marks i p g)).1 covers)
best_moves marks x place n (Some b) same best = record {
  at = best.at;
  covers = (same b (contains_from marks best.at.0 b best.at.1)).0 best.covers;
  greatest = λ i p l g covers. best.greatest i p l g ((same p (contains_from marks i p g)).1 covers);
}

module _ (marks : List PlacedMark) (places : List ℕ) (numbers : List (Option ℕ)) (over : AreOver marks places numbers) (place : ℕ) where
  pub none_before : IsCountUpTo places place 0 → IsBest marks place (length marks) None
  none_before up_to =
      λ i p l g covers.
      let j = contains_at places p.start (over.begins p (contains_from marks i p g)) in
      let early : j.0 < 0 = (up_to j.0 p.start j.1).1 covers.0 in
      absurd (omega arith)

  module _ (j x : ℕ) (up_to : IsCountUpTo places place (j + 1)) (at : slice_get places j ≡ Some x) where
    reached : x ≤ place
    reached = (up_to j x at).0 (omega arith)

    no_later : (v : ℕ) → Contains places v → v ≤ place → v ≤ x
    no_later v held le =
        let i = contains_at places v held in
        let early : i.0 < j + 1 = (up_to i.0 v i.1).1 le in
        let here : get_or places i.0 0 ≡ v = get_or_from_slice_get places i.0 v 0 i.1 in
        let there : get_or places j 0 ≡ x = get_or_from_slice_get places j x 0 at in
        let low : get_or places i.0 0 ≤ get_or places j 0 = ascending places over.rising i.0 j (omega arith) (slice_get_within places j x at) in
        omega arith

    same_cover : (m : PlacedMark) → Contains marks m → CoversPlace m x ↔ CoversPlace m place
    same_cover m held =
        let low : x ≤ place = reached in (
          λ covers.
              let begun : m.start ≤ x = covers.0 in
              let ongoing : x < m.end = covers.1 in (
                omega arith,
                ⊎_elim
                    (λ (less : place < m.end). less)
                    (λ (ge : m.end ≤ place). let over_by : m.end ≤ x = no_later m.end (over.ends m held) ge in absurd (omega arith))
                    (cases_lt place m.end),
              ),
          λ covers. let ongoing : place < m.end = covers.1 in (no_later m.start (over.begins m held) covers.0, omega arith),
        )

    pub best_from : (number : Option ℕ) → slice_get numbers j ≡ Some number → IsBest marks place (length marks) (numbered marks number)
    best_from number stands = best_moves marks x place (length marks) (numbered marks number) same_cover (over.painted.best j x number at stands)

pub decided : (marks : List PlacedMark) (place : ℕ) (number : Option ℕ) (n : ℕ) (r : Option (Bor PlacedMark)) (result : Option PlacedMark) → number ≡ Some n → IsItemAt marks n r → result ≡ option_copied r → IsBest marks place (length marks) (numbered marks number) → IsBest marks place (length marks) result
decided marks place number n r result is got copied best =
    subst (IsBest marks place (length marks)) (sym (copied ∙ copied_from_get marks n r got))
    (subst (λ (z : Option ℕ). IsBest marks place (length marks) (numbered marks z)) is best)

pub undecided : (marks : List PlacedMark) (place : ℕ) (number : Option ℕ) → number ≡ None → IsBest marks place (length marks) (numbered marks number) → IsBest marks place (length marks) None
undecided marks place number is best = subst (λ (z : Option ℕ). IsBest marks place (length marks) (numbered marks z)) is best

-- ---- gathering the places
pub places_more : (old mid new : List ℕ) (a b : ℕ) → mid ≡ old ++ a ∷ [] → new ≡ mid ++ b ∷ [] → ((v : ℕ) → Contains old v → Contains new v) × Contains new a × Contains new b
places_more old mid new a b first second = (
  λ v held. subst (λ (l : List ℕ). Contains l v) (sym second) (Contains-append_left mid (b ∷ []) v (subst (λ (l : List ℕ). Contains l v) (sym first) (Contains-append_left old (a ∷ []) v held))),
  subst (λ (l : List ℕ). Contains l a) (sym second) (Contains-append_left mid (b ∷ []) a (subst (λ (l : List ℕ). Contains l a) (sym first) (Contains-push old a))),
  subst (λ (l : List ℕ). Contains l b) (sym second) (Contains-push mid b),
)

-- and each place of the new list is one at which a mark begins or ends
pub ends_more : (marks : List PlacedMark) (mark : PlacedMark) (old mid new : List ℕ) → Contains marks mark → mid ≡ old ++ mark.start ∷ [] → new ≡ mid ++ mark.end ∷ [] → ((c : ℕ) → Contains old c → IsEndOf marks c) → (c : ℕ) → Contains new c → IsEndOf marks c
ends_more marks mark old mid new there first second all c held =
    ⊎_elim
    (λ (before : Contains mid c).
    ⊎_elim
    (λ (older : Contains old c). all c older)
    (λ (start : mark.start ≡ c). (mark, there, inl start))
    (Contains-push_cases old mark.start c (subst (λ (l : List ℕ). Contains l c) first before)))
    (λ (end : mark.end ≡ c). (mark, there, inr end))
    (Contains-push_cases mid mark.end c (subst (λ (l : List ℕ). Contains l c) second held))
