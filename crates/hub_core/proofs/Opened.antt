-- The ids of the open subscribers, as subscribers are added and changed.
use Rattle.std.proofs.Common.{◌≡◌, ℕ, zero, suc, ◌+◌, ◌-◌, ◌<◌, ◌≤◌, true, false, true≢false, cond, List, [], ◌∷◌, ◌++◌, length, get_or, set, refl, sym, ap, ◌∙◌, subst, arith, add-zero, ⊎_elim}
use Rattle.std.specs.Prelude.{slice_get, Some, not, count_by, remove}
use Rattle.std.proofs.lemmas.Bool.{cases_Bool}
use Rattle.std.proofs.lemmas.Option.{none-some, same_Some, slice_get-get_or, slice_get_read, slice_get_within}
use Rattle.std.proofs.lemmas.List.Sums.{sum_by-cons, sum_by-append, count_by-le-length}
use Rattle.feeds.specs.Feed.{Subscriber}
use Rattle.hub_core.specs.Machine.{is_open}
use Rattle.hub_core.specs.Opened.{open_ids}

module _ {S : Type 0} where
  past_closed : (n : ℕ) (a : Subscriber S) (l : List (Subscriber S)) → a.closed ≡ true → open_ids n (a ∷ l) ≡ open_ids (n + 1) l
  unfolding open_ids
  past_closed n a l is = ap (λ b. cond b (open_ids (n + 1) l) (n ∷ open_ids (n + 1) l)) is

  past_open : (n : ℕ) (a : Subscriber S) (l : List (Subscriber S)) → a.closed ≡ false → open_ids n (a ∷ l) ≡ n ∷ open_ids (n + 1) l
  unfolding open_ids
  past_open n a l is = ap (λ b. cond b (open_ids (n + 1) l) (n ∷ open_ids (n + 1) l)) is

  -- of none there is none
  pub none_open : (n : ℕ) (l : List (Subscriber S)) → l ≡ [] → open_ids n l ≡ []
  unfolding open_ids
  none_open n l none = ap (open_ids n) none

  count_more : (a : Subscriber S) (l : List (Subscriber S)) → count_by is_open (a ∷ l) ≡ cond (not a.closed) 1 0 + count_by is_open l
  count_more a l = sum_by-cons (λ (x : Subscriber S). cond (is_open x) 1 0) a l

  count_closed : (a : Subscriber S) (l : List (Subscriber S)) → a.closed ≡ true → count_by is_open (a ∷ l) ≡ count_by is_open l
  count_closed a l is =
      let none : ◌≡◌ {A = ℕ} (cond (not a.closed) 1 0) 0 = ap (λ b. cond (not b) 1 0) is in
      omega (arith, count_more a l, none)

  count_open : (a : Subscriber S) (l : List (Subscriber S)) → a.closed ≡ false → count_by is_open (a ∷ l) ≡ count_by is_open l + 1
  count_open a l is =
      let one : ◌≡◌ {A = ℕ} (cond (not a.closed) 1 0) 1 = ap (λ b. cond (not b) 1 0) is in
      omega (arith, count_more a l, one)

  -- there are as many as open subscribers
  pub open_count : (n : ℕ) (l : List (Subscriber S)) → length (open_ids n l) ≡ count_by is_open l
  unfolding open_ids
  open_count n [] = refl
  open_count n (a ∷ l) =
      ⊎_elim (λ (is : a.closed ≡ true). ap length (past_closed n a l is) ∙ open_count (n + 1) l ∙ sym (count_closed a l is))
      (λ (is : a.closed ≡ false).
      let longer : length (open_ids n (a ∷ l)) ≡ suc (length (open_ids (n + 1) l)) = ap length (past_open n a l is) in
      omega (arith, longer, open_count (n + 1) l, count_open a l is)) (cases_Bool a.closed)

  -- one more that is open
  pub open_push : (n : ℕ) (l : List (Subscriber S)) (a : Subscriber S) → a.closed ≡ false → open_ids n (l ++ a ∷ []) ≡ open_ids n l ++ (n + length l) ∷ []
  unfolding open_ids
  open_push n [] a is = past_open n a [] is ∙ ap (λ k. k ∷ []) (sym (add-zero n))
  open_push n (x ∷ l) a is =
      let last : n + 1 + length l ≡ n + length (x ∷ l) = omega arith in
      ⊎_elim (λ (gone : x.closed ≡ true). past_closed n x (l ++ a ∷ []) gone ∙ open_push (n + 1) l a is ∙ (λ i. sym (past_closed n x l gone) i ++ last i ∷ []))
      (λ (here : x.closed ≡ false). past_open n x (l ++ a ∷ []) here ∙ ap (λ r. n ∷ r) (open_push (n + 1) l a is) ∙ (λ i. sym (past_open n x l here) i ++ last i ∷ [])) (cases_Bool x.closed)

  pub count_push : (l : List (Subscriber S)) (a : Subscriber S) → count_by is_open (l ++ a ∷ []) ≤ count_by is_open l + 1
  count_push l a =
      let both : count_by is_open (l ++ a ∷ []) ≡ count_by is_open l + count_by is_open (a ∷ []) = sum_by-append (λ (x : Subscriber S). cond (is_open x) 1 0) l (a ∷ []) in
      let one : count_by is_open (a ∷ []) ≤ 1 = count_by-le-length is_open (a ∷ []) in
      omega (arith, both, one)

  -- one replaced by one that is closed where it was
  pub open_same : (n : ℕ) (l : List (Subscriber S)) (id : ℕ) (a b : Subscriber S) → slice_get l id ≡ Some a → b.closed ≡ a.closed → open_ids n (set l id b) ≡ open_ids n l
  unfolding open_ids
  open_same n [] id a b at same = absurd (none-some a at)
  open_same n (x ∷ l) zero a b at same =
      ap (λ c. cond c (open_ids (n + 1) l) (n ∷ open_ids (n + 1) l)) (same ∙ ap (λ (z : Subscriber S). z.closed) (sym (same_Some x a at)))
  open_same n (x ∷ l) (suc id) a b at same = ap (λ m. cond x.closed m (n ∷ m)) (open_same (n + 1) l id a b at same)

  pub ids_kept : (l : List (Subscriber S)) (ids : List ℕ) (id : ℕ) (a b : Subscriber S) → id < length l → a ≡ get_or l id a → b.closed ≡ a.closed → ids ≡ open_ids 0 l → ids ≡ open_ids 0 (set l id b)
  ids_kept l ids id a b within at same is = is ∙ sym (open_same 0 l id a b (slice_get_read l (length l) id a refl within at) same)

  -- or that is open only where it was
  pub count_set : (l : List (Subscriber S)) (id : ℕ) (a b : Subscriber S) → slice_get l id ≡ Some a → (a.closed ≡ true → b.closed ≡ true) → count_by is_open (set l id b) ≤ count_by is_open l
  count_set [] id a b at stays = absurd (none-some a at)
  count_set (x ∷ l) zero a b at stays =
      let one : x ≡ a = same_Some x a at in
      ⊎_elim (λ (gone : b.closed ≡ true). omega (arith, count_closed b l gone, count_more x l))
      (λ (here : b.closed ≡ false).
      ⊎_elim (λ (was : x.closed ≡ true). absurd (true≢false (sym (stays (ap (λ (z : Subscriber S). z.closed) (sym one) ∙ was)) ∙ here)))
      (λ (was : x.closed ≡ false). omega (arith, count_open b l here, count_open x l was)) (cases_Bool x.closed))
      (cases_Bool b.closed)
  count_set (x ∷ l) (suc id) a b at stays = omega (arith, count_more x (set l id b), count_more x l, count_set l id a b at stays)

  -- an open subscriber has this id
  abbrev IsThere : ℕ → List (Subscriber S) → ℕ → Type 0
  IsThere n l id = (n ≤ id) × ((a : Subscriber S) × (slice_get l (id - n) ≡ Some a) × (a.closed ≡ false))

  there_more : (n : ℕ) (x : Subscriber S) (l : List (Subscriber S)) (id : ℕ) → IsThere (n + 1) l id → IsThere n (x ∷ l) id
  there_more n x l id there =
      let next : suc (id - (n + 1)) ≡ id - n = omega (arith, there.0) in
      (omega (arith, there.0), (there.1.0, subst (λ m. slice_get (x ∷ l) m ≡ Some there.1.0) next there.1.1, there.1.2))

  behind_closed : (n : ℕ) (x : Subscriber S) (l : List (Subscriber S)) (k id : ℕ) → x.closed ≡ true → slice_get (open_ids n (x ∷ l)) k ≡ Some id → slice_get (open_ids (n + 1) l) k ≡ Some id
  behind_closed n x l k id gone at = subst (λ m. slice_get m k ≡ Some id) (past_closed n x l gone) at

  behind_open : (n : ℕ) (x : Subscriber S) (l : List (Subscriber S)) (k id : ℕ) → x.closed ≡ false → slice_get (open_ids n (x ∷ l)) k ≡ Some id → slice_get (n ∷ open_ids (n + 1) l) k ≡ Some id
  behind_open n x l k id here at = subst (λ m. slice_get m k ≡ Some id) (past_open n x l here) at

  -- each is the index of an open subscriber
  pub open_there : (n : ℕ) (l : List (Subscriber S)) (k id : ℕ) → slice_get (open_ids n l) k ≡ Some id → IsThere n l id
  unfolding open_ids
  open_there n [] k id at = absurd (none-some id at)
  open_there n (x ∷ l) zero id at =
      ⊎_elim (λ (gone : x.closed ≡ true). there_more n x l id (open_there (n + 1) l zero id (behind_closed n x l zero id gone at)))
      (λ (here : x.closed ≡ false).
      let is : n ≡ id = same_Some n id (behind_open n x l zero id here at) in
      let first : 0 ≡ id - n = omega (arith, is) in
      (omega (arith, is), (x, subst (λ m. slice_get (x ∷ l) m ≡ Some x) first refl, here))) (cases_Bool x.closed)
  open_there n (x ∷ l) (suc k) id at =
      ⊎_elim (λ (gone : x.closed ≡ true). there_more n x l id (open_there (n + 1) l (suc k) id (behind_closed n x l (suc k) id gone at)))
      (λ (here : x.closed ≡ false). there_more n x l id (open_there (n + 1) l k id (behind_open n x l (suc k) id here at))) (cases_Bool x.closed)

  -- each open subscriber's index is one
  pub open_has : (n : ℕ) (l : List (Subscriber S)) (id : ℕ) (a : Subscriber S) → slice_get l id ≡ Some a → a.closed ≡ false → (k : ℕ) × (slice_get (open_ids n l) k ≡ Some (n + id))
  open_has n [] id a at is = absurd (none-some a at)
  open_has n (x ∷ l) zero a at is =
      let here : x.closed ≡ false = ap (λ (z : Subscriber S). z.closed) (same_Some x a at) ∙ is in
      (0, subst (λ m. slice_get m 0 ≡ Some (n + 0)) (sym (past_open n x l here)) (ap Some (sym (add-zero n))))
  open_has n (x ∷ l) (suc id) a at is =
      let more = open_has (n + 1) l id a at is in
      let next : n + 1 + id ≡ n + suc id = omega arith in
      let there : slice_get (open_ids (n + 1) l) more.0 ≡ Some (n + suc id) = more.1 ∙ ap Some next in
      ⊎_elim (λ (gone : x.closed ≡ true). (more.0, subst (λ m. slice_get m more.0 ≡ Some (n + suc id)) (sym (past_closed n x l gone)) there))
      (λ (here : x.closed ≡ false). (suc more.0, subst (λ m. slice_get m (suc more.0) ≡ Some (n + suc id)) (sym (past_open n x l here)) there)) (cases_Bool x.closed)

  -- they rise
  pub open_rises : (n : ℕ) (l : List (Subscriber S)) (j k x y : ℕ) → slice_get (open_ids n l) j ≡ Some x → slice_get (open_ids n l) k ≡ Some y → x < y → j < k
  unfolding open_ids
  open_rises n [] j k x y at_j at_k less = absurd (none-some x at_j)
  open_rises n (a ∷ l) zero zero x y at_j at_k less =
      let same : x ≡ y = same_Some x y (sym at_j ∙ at_k) in absurd (omega (arith, same, less))
  open_rises n (a ∷ l) zero (suc k) x y at_j at_k less = omega arith
  open_rises n (a ∷ l) (suc j) zero x y at_j at_k less =
      ⊎_elim (λ (gone : a.closed ≡ true). open_rises (n + 1) l (suc j) zero x y (behind_closed n a l (suc j) x gone at_j) (behind_closed n a l zero y gone at_k) less)
      (λ (here : a.closed ≡ false).
      let is : n ≡ y = same_Some n y (behind_open n a l zero y here at_k) in
      let above = open_there (n + 1) l j x (behind_open n a l (suc j) x here at_j) in
      absurd (omega (arith, is, above.0, less))) (cases_Bool a.closed)
  open_rises n (a ∷ l) (suc j) (suc k) x y at_j at_k less =
      ⊎_elim (λ (gone : a.closed ≡ true). open_rises (n + 1) l (suc j) (suc k) x y (behind_closed n a l (suc j) x gone at_j) (behind_closed n a l (suc k) y gone at_k) less)
      (λ (here : a.closed ≡ false). omega (arith, open_rises (n + 1) l j k x y (behind_open n a l (suc j) x here at_j) (behind_open n a l (suc k) y here at_k) less)) (cases_Bool a.closed)

  -- one that is closed
  pub open_less : (n : ℕ) (l : List (Subscriber S)) (k id : ℕ) (b : Subscriber S) → slice_get (open_ids n l) k ≡ Some (n + id) → b.closed ≡ true → open_ids n (set l id b) ≡ remove (open_ids n l) k
  unfolding open_ids
  open_less n [] k id b at is = absurd (none-some (n + id) at)
  open_less n (x ∷ l) zero zero b at is =
      ⊎_elim (λ (gone : x.closed ≡ true).
      let above = open_there (n + 1) l zero (n + 0) (behind_closed n x l zero (n + 0) gone at) in absurd (omega (arith, above.0)))
      (λ (here : x.closed ≡ false). past_closed n b l is ∙ ap (λ m. remove m 0) (sym (past_open n x l here))) (cases_Bool x.closed)
  open_less n (x ∷ l) (suc k) zero b at is =
      let below : IsThere (n + 1) l (n + 0) → open_ids n (b ∷ l) ≡ remove (open_ids n (x ∷ l)) (suc k) = λ above. absurd (omega (arith, above.0)) in
      ⊎_elim (λ (gone : x.closed ≡ true). below (open_there (n + 1) l (suc k) (n + 0) (behind_closed n x l (suc k) (n + 0) gone at)))
      (λ (here : x.closed ≡ false). below (open_there (n + 1) l k (n + 0) (behind_open n x l (suc k) (n + 0) here at))) (cases_Bool x.closed)
  open_less n (x ∷ l) zero (suc id) b at is =
      let next : n + suc id ≡ n + 1 + id = omega arith in
      ⊎_elim (λ (gone : x.closed ≡ true).
      let less = open_less (n + 1) l zero id b (behind_closed n x l zero (n + suc id) gone at ∙ ap Some next) is in
      past_closed n x (set l id b) gone ∙ less ∙ ap (λ m. remove m zero) (sym (past_closed n x l gone)))
      (λ (here : x.closed ≡ false).
      let first : n ≡ n + suc id = same_Some n (n + suc id) (behind_open n x l zero (n + suc id) here at) in absurd (omega (arith, first))) (cases_Bool x.closed)
  open_less n (x ∷ l) (suc k) (suc id) b at is =
      let next : n + suc id ≡ n + 1 + id = omega arith in
      ⊎_elim (λ (gone : x.closed ≡ true).
      let less = open_less (n + 1) l (suc k) id b (behind_closed n x l (suc k) (n + suc id) gone at ∙ ap Some next) is in
      past_closed n x (set l id b) gone ∙ less ∙ ap (λ m. remove m (suc k)) (sym (past_closed n x l gone)))
      (λ (here : x.closed ≡ false).
      let less = open_less (n + 1) l k id b (behind_open n x l (suc k) (n + suc id) here at ∙ ap Some next) is in
      past_open n x (set l id b) here ∙ ap (λ m. n ∷ m) less ∙ ap (λ m. remove m (suc k)) (sym (past_open n x l here))) (cases_Bool x.closed)

  pub ids_less : (l : List (Subscriber S)) (ids ids' : List ℕ) (id : ℕ) (b : Subscriber S) → (k : ℕ) × (slice_get ids k ≡ Some id) × (ids' ≡ remove ids k) → b.closed ≡ true → ids ≡ open_ids 0 l → ids' ≡ open_ids 0 (set l id b)
  ids_less l ids ids' id b out is are =
      let zero_more : id ≡ 0 + id = omega arith in
      let at : slice_get (open_ids 0 l) out.0 ≡ Some (0 + id) = subst (λ (x : List ℕ × ℕ). slice_get x.0 out.0 ≡ Some x.1) (λ i. (are i, zero_more i)) out.1 in
      out.2 ∙ ap (λ m. remove m out.0) are ∙ sym (open_less 0 l out.0 id b at is)

  pub ids_more : (l l' : List (Subscriber S)) (ids ids' : List ℕ) (id : ℕ) (a : Subscriber S) → a.closed ≡ false → id ≡ length l → ids ≡ open_ids 0 l → ids' ≡ ids ++ id ∷ [] → l' ≡ l ++ a ∷ [] → ids' ≡ open_ids 0 l'
  ids_more l l' ids ids' id a is last are more longer =
      let place : id ≡ 0 + length l = omega (arith, last) in
      more ∙ (λ i. are i ++ place i ∷ []) ∙ sym (open_push 0 l a is) ∙ ap (open_ids 0) (sym longer)

  -- an open subscriber's id stands somewhere
  pub ids_have : (l : List (Subscriber S)) (id : ℕ) (a : Subscriber S) → slice_get l id ≡ Some a → a.closed ≡ false → (k : ℕ) × (slice_get (open_ids 0 l) k ≡ Some id)
  ids_have l id a at is =
      let has = open_has 0 l id a at is in
      let same : 0 + id ≡ id = omega arith in
      (has.0, has.1 ∙ ap Some same)

  -- and what stands there is an open subscriber's id
  pub ids_are : (l : List (Subscriber S)) (k id : ℕ) → slice_get (open_ids 0 l) k ≡ Some id → (a : Subscriber S) × (slice_get l id ≡ Some a) × (a.closed ≡ false)
  ids_are l k id at =
      let there = open_there 0 l k id at in
      let same : id - 0 ≡ id = omega arith in
      (there.1.0, subst (λ m. slice_get l m ≡ Some there.1.0) same there.1.1, there.1.2)

  -- the one that stands at a place that is read
  pub id_at : (l : List (Subscriber S)) (ids : List ℕ) (k : ℕ) → ids ≡ open_ids 0 l → k < length ids → slice_get (open_ids 0 l) k ≡ Some (get_or ids k 0)
  id_at l ids k are within = subst (λ m. slice_get m k ≡ Some (get_or ids k 0)) are (slice_get-get_or ids k 0 within)

  pub id_within : (l : List (Subscriber S)) (ids : List ℕ) (k : ℕ) → ids ≡ open_ids 0 l → k < length ids → get_or ids k 0 < length l
  id_within l ids k are within =
      let there = ids_are l k (get_or ids k 0) (id_at l ids k are within) in slice_get_within l (get_or ids k 0) there.0 there.1

  -- is the id of one that is open
  pub id_open : (l : List (Subscriber S)) (ids : List ℕ) (k : ℕ) (a : Subscriber S) → ids ≡ open_ids 0 l → k < length ids → a ≡ get_or l (get_or ids k 0) a → (slice_get l (get_or ids k 0) ≡ Some a) × (a.closed ≡ false)
  id_open l ids k a are within is =
      let there = ids_are l k (get_or ids k 0) (id_at l ids k are within) in
      let read = slice_get_read l (length l) (get_or ids k 0) a refl (id_within l ids k are within) is in
      (read, ap (λ (z : Subscriber S). z.closed) (same_Some a there.0 (sym read ∙ there.1)) ∙ there.2)
