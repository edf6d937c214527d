-- Where the run of a comment that has a place is found among orderly runs.
use Rattle.std.proofs.Common.{◌≡◌, ◌∙◌, ℕ, ◌<◌, ◌≤◌, ◌⊎◌, Bool, true, false, inl, inr, List, Some, length, get_or, sym, ap, arith, ⊎_elim}
use Rattle.std.specs.Prelude.{◌&&◌, ◌||◌, nat_eq, nat_le, nat_lt}
use Rattle.std.specs.List.{slice_get}
use Rattle.std.specs.List.Sorted.{IsPartitionedBy}
use Rattle.std.proofs.lemmas.Bool.{cases_lt, false≢true, eq-eqb, eqb-true, le-leb, leb-true, lt-ltb, ltb-true, and_parts, and_from}
use Rattle.std.proofs.lemmas.Option.{get_or_from_slice_get, slice_get_within, slice_get-get_or}
use Rattle.mark_anchors.specs.CommentRuns.{HasRun, AreOrderly}
use Rattle.mark_anchors.specs.declared.comment_runs.CommentRun.{CommentRun}
use Rattle.mark_anchors.proofs.Lists.{contains_at, contains_from, item_at}

-- the run is of a lesser number, or of this one and ended
abbrev pub is_before : ℕ → ℕ → CommentRun → Bool
is_before n place run = nat_lt run.number n || (nat_eq run.number n && nat_le run.to place)

before_less : (n place : ℕ) (run : CommentRun) → run.number < n → is_before n place run ≡ true
before_less n place run less = ap (λ b. b || (nat_eq run.number n && nat_le run.to place)) (lt-ltb run.number n less)

or_right : (x y : Bool) → y ≡ true → (x || y) ≡ true
or_right true y e = λ _. true
or_right false y e = e

or_cases : (x y : Bool) → (x || y) ≡ true → (x ≡ true) ⊎ (y ≡ true)
or_cases true y e = inl (λ _. true)
or_cases false y e = inr e

before_ended : (n place : ℕ) (run : CommentRun) → run.number ≡ n → run.to ≤ place → is_before n place run ≡ true
before_ended n place run is ended =
    or_right (nat_lt run.number n) (nat_eq run.number n && nat_le run.to place) (and_from (nat_eq run.number n) (nat_le run.to place) (eq-eqb run.number n is) (le-leb run.to place ended))

before_cases : (n place : ℕ) (run : CommentRun) → is_before n place run ≡ true → (run.number < n) ⊎ ((run.number ≡ n) × (run.to ≤ place))
before_cases n place run is =
    ⊎_elim
    (λ (less : nat_lt run.number n ≡ true). inl (ltb-true run.number n less))
    (λ (both : (nat_eq run.number n && nat_le run.to place) ≡ true). let parts = and_parts (nat_eq run.number n) (nat_le run.to place) both in inr (eqb-true run.number n parts.0, leb-true run.to place parts.1))
    (or_cases (nat_lt run.number n) (nat_eq run.number n && nat_le run.to place) is)

module _ (runs : List CommentRun) (orderly : AreOrderly runs) (n place : ℕ) where
  pub parted_before : IsPartitionedBy (is_before n place) runs
  parted_before i j d le within is =
      let run : CommentRun = get_or runs i d in
      let other : CommentRun = get_or runs j d in
      let g : slice_get runs i ≡ Some run = slice_get-get_or runs i d (omega arith) in
      let h : slice_get runs j ≡ Some other = slice_get-get_or runs j d within in
      ⊎_elim
      (λ (less : i < j).
      let along : other.from ≤ other.to = orderly.along other (contains_from runs j other h) in
      ⊎_elim
      (λ (low : run.number < other.number).
      ⊎_elim
      (λ (below : other.number < n). before_less n place run (omega arith))
      (λ (ended : (other.number ≡ n) × (other.to ≤ place)). let same : other.number ≡ n = ended.0 in before_less n place run (omega arith))
      (before_cases n place other is))
      (λ (apart : (run.number ≡ other.number) × (run.to ≤ other.from)).
      let same : run.number ≡ other.number = apart.0 in
      let past : run.to ≤ other.from = apart.1 in
      ⊎_elim
      (λ (below : other.number < n). before_less n place run (omega arith))
      (λ (ended : (other.number ≡ n) × (other.to ≤ place)). let end : other.to ≤ place = ended.1 in before_ended n place run (same ∙ ended.0) (omega arith))
      (before_cases n place other is))
      (orderly.order i j run other less g h))
      (λ (ge : j ≤ i). let here : j ≡ i = omega arith in ap (λ k. is_before n place (get_or runs k d)) (sym here) ∙ is)
      (cases_lt i j)

  module _ (index : ℕ) (passed : (k : ℕ) (d : CommentRun) → k < index → is_before n place (get_or runs k d) ≡ true) (left : (k : ℕ) (d : CommentRun) → index ≤ k → k < length runs → is_before n place (get_or runs k d) ≡ false) where
    not_passed : (k : ℕ) (run : CommentRun) → slice_get runs k ≡ Some run → run.number ≡ n → place < run.to → index ≤ k
    not_passed k run g same on =
        ⊎_elim
        (λ (less : k < index).
        let is : is_before n place run ≡ true = ap (is_before n place) (sym (get_or_from_slice_get runs k run run g)) ∙ passed k run less in
        ⊎_elim
        (λ (below : run.number < n). absurd (omega arith))
        (λ (ended : (run.number ≡ n) × (run.to ≤ place)). let end : run.to ≤ place = ended.1 in absurd (omega arith))
        (before_cases n place run is))
        (λ (ge : index ≤ k). ge)
        (cases_lt k index)

    -- the first run that isn't passed is the one that has the place, if one has
    pub found : HasRun runs n place → (here : CommentRun) × (slice_get runs index ≡ Some here) × (here.number ≡ n) × (here.from ≤ place)
    found has =
        let run : CommentRun = has.0 in
        let j = contains_at runs run has.1 in
        let same : run.number ≡ n = has.2 in
        let begun : run.from ≤ place = has.3.0 in
        let le : index ≤ j.0 = not_passed j.0 run j.1 same has.3.1 in
        let within : j.0 < length runs = slice_get_within runs j.0 run j.1 in
        ⊎_elim
        (λ (less : index < j.0).
        let x = item_at runs index (omega arith) in
        let here : CommentRun = x.0 in
        let not : is_before n place here ≡ false = ap (is_before n place) (sym (get_or_from_slice_get runs index here here x.1)) ∙ left index here (omega arith) (omega arith) in
        ⊎_elim
        (λ (low : here.number < run.number). absurd (false≢true (sym not ∙ before_less n place here (omega arith))))
        (λ (apart : (here.number ≡ run.number) × (here.to ≤ run.from)).
        let past : here.to ≤ run.from = apart.1 in
        absurd (false≢true (sym not ∙ before_ended n place here (apart.0 ∙ same) (omega arith))))
        (orderly.order index j.0 here run less x.1 j.1))
        (λ (ge : j.0 ≤ index). let at : j.0 ≡ index = omega arith in (run, ap (slice_get runs) (sym at) ∙ j.1, same, begun))
        (cases_lt index j.0)

    -- the first run that isn't passed has the place, if it is the comment's and has begun
    pub has_here : (here : CommentRun) → slice_get runs index ≡ Some here → here.number ≡ n → here.from ≤ place → HasRun runs n place
    has_here here g same begun =
        let within : index < length runs = slice_get_within runs index here g in
        let not : is_before n place here ≡ false = ap (is_before n place) (sym (get_or_from_slice_get runs index here here g)) ∙ left index here (omega arith) within in
        ⊎_elim
        (λ (on : place < here.to). (here, contains_from runs index here g, same, (begun, on)))
        (λ (past : here.to ≤ place). absurd (false≢true (sym not ∙ before_ended n place here same past)))
        (cases_lt place here.to)
