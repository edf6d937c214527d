-- A count that is tried before a search: what stands on either side of it tells whether it is right.
use Rattle.std.proofs.Common.{◌≡◌, ℕ, ◌-◌, ◌<◌, ◌≤◌, ◌⊎◌, Bool, List, length, get_or, ap, ⊎_elim, arith}
use Rattle.std.specs.Prelude.{nat_le}
use Rattle.std.specs.List.Sorted.{IsNonDecreasingBy, IsStrictlyIncreasing}
use Rattle.std.proofs.lemmas.Bool.{cases_lt, le-leb, lt-leb}
use Rattle.std.proofs.lemmas.Option.{slice_get_within, slice_get-get_or, get_or_from_slice_get}
use Rattle.mark_anchors.specs.CommentLists.{count_up_to}
use Rattle.mark_anchors.specs.KeyMarks.{IsCountBelow, IsCountUpTo}
use Rattle.mark_anchors.specs.declared.comment_runs.CommentRun.{CommentRun}
use Rattle.mark_anchors.proofs.Counting.{count_from_point}
use Rattle.mark_anchors.proofs.Painting.{ascending}

-- the place before the count is none or not behind, and the one at it is none or behind
pub places_counted : (xs : List ℕ) → IsStrictlyIncreasing xs → (x n : ℕ) → n ≤ length xs → ((n ≡ 0) ⊎ (get_or xs (n - 1) 0 ≤ x)) → ((n ≡ length xs) ⊎ (x < get_or xs n 0)) → IsCountUpTo xs x n
places_counted xs rising x n within before behind j y at =
    let here : get_or xs j 0 ≡ y = get_or_from_slice_get xs j y 0 at in
    let inside : j < length xs = slice_get_within xs j y at in (
      λ less.
          ⊎_elim
          (λ (none : n ≡ 0). absurd (omega arith))
          (λ (le : get_or xs (n - 1) 0 ≤ x). let low : get_or xs j 0 ≤ get_or xs (n - 1) 0 = ascending xs rising j (n - 1) (omega arith) (omega arith) in omega arith)
          before,
      λ le.
          ⊎_elim
          (λ (l : j < n). l)
          (λ (ge : n ≤ j).
          ⊎_elim
          (λ (all : n ≡ length xs). absurd (omega arith))
          (λ (less : x < get_or xs n 0). let high : get_or xs n 0 ≤ get_or xs j 0 = ascending xs rising n j ge inside in absurd (omega arith))
          behind)
          (cases_lt j n),
    )

-- the place before the count is none or before, and the one at it is none or not before
pub places_below : (xs : List ℕ) → IsStrictlyIncreasing xs → (x n : ℕ) → n ≤ length xs → ((n ≡ 0) ⊎ (get_or xs (n - 1) 0 < x)) → ((n ≡ length xs) ⊎ (x ≤ get_or xs n 0)) → IsCountBelow xs x n
places_below xs rising x n within before behind j y at =
    let here : get_or xs j 0 ≡ y = get_or_from_slice_get xs j y 0 at in
    let inside : j < length xs = slice_get_within xs j y at in (
      λ less.
          ⊎_elim
          (λ (none : n ≡ 0). absurd (omega arith))
          (λ (lt : get_or xs (n - 1) 0 < x). let low : get_or xs j 0 ≤ get_or xs (n - 1) 0 = ascending xs rising j (n - 1) (omega arith) (omega arith) in omega arith)
          before,
      λ lt.
          ⊎_elim
          (λ (l : j < n). l)
          (λ (ge : n ≤ j).
          ⊎_elim
          (λ (all : n ≡ length xs). absurd (omega arith))
          (λ (le : x ≤ get_or xs n 0). let high : get_or xs n 0 ≤ get_or xs j 0 = ascending xs rising n j ge inside in absurd (omega arith))
          behind)
          (cases_lt j n),
    )

-- what is read within the list doesn't hang on the default
any_default : (place_of : CommentRun → ℕ) (runs : List CommentRun) (k : ℕ) (d e : CommentRun) → k < length runs → place_of (get_or runs k d) ≡ place_of (get_or runs k e)
any_default place_of runs k d e within = ap place_of (get_or_from_slice_get runs k (get_or runs k e) d (slice_get-get_or runs k e within))

module _ (place_of : CommentRun → ℕ) (runs : List CommentRun) (sorted : IsNonDecreasingBy place_of runs) (place n : ℕ) (within : n ≤ length runs) where
  pub runs_before : ((n ≡ 0) ⊎ ((e : CommentRun) × (place_of (get_or runs (n - 1) e) ≤ place))) → (k : ℕ) (d : CommentRun) → k < n → place_of (get_or runs k d) ≤ place
  runs_before before k d less =
      ⊎_elim
      (λ (none : n ≡ 0). absurd (omega arith))
      (λ (last : (e : CommentRun) × (place_of (get_or runs (n - 1) e) ≤ place)).
      let low : place_of (get_or runs k d) ≤ place_of (get_or runs (n - 1) d) = sorted k (n - 1) d (omega arith) (omega arith) in
      let same : place_of (get_or runs (n - 1) d) ≡ place_of (get_or runs (n - 1) last.0) = any_default place_of runs (n - 1) d last.0 (omega arith) in
      let le : place_of (get_or runs (n - 1) last.0) ≤ place = last.1 in
      omega arith)
      before

  pub runs_behind : ((n ≡ length runs) ⊎ ((e : CommentRun) × (place < place_of (get_or runs n e)))) → (k : ℕ) (d : CommentRun) → n ≤ k → k < length runs → place < place_of (get_or runs k d)
  runs_behind behind k d low inside =
      ⊎_elim
      (λ (all : n ≡ length runs). absurd (omega arith))
      (λ (first : (e : CommentRun) × (place < place_of (get_or runs n e))).
      let high : place_of (get_or runs n d) ≤ place_of (get_or runs k d) = sorted n k d low inside in
      let same : place_of (get_or runs n d) ≡ place_of (get_or runs n first.0) = any_default place_of runs n d first.0 (omega arith) in
      let less : place < place_of (get_or runs n first.0) = first.1 in
      omega arith)
      behind

  pub runs_counted : ((k : ℕ) (d : CommentRun) → k < n → place_of (get_or runs k d) ≤ place) → ((k : ℕ) (d : CommentRun) → n ≤ k → k < length runs → place < place_of (get_or runs k d)) → n ≡ count_up_to place_of runs place
  runs_counted first rest =
      let p : CommentRun → Bool = λ run. nat_le (place_of run) place in
      count_from_point p runs n within (λ k d less. le-leb (place_of (get_or runs k d)) place (first k d less)) (λ k d low inside. lt-leb (place_of (get_or runs k d)) place (rest k d low inside))
