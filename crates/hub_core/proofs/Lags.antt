-- The greatest lag is that of the slowest open subscriber.
use Rattle.std.proofs.Common.{◌≡◌, ℕ, zero, suc, ◌+◌, ◌-◌, ◌<◌, ◌≤◌, max, true, false, cond, List, [], ◌∷◌, length, get_or, refl, sym, ap, ◌∙◌, subst, arith, ⊎_elim}
use Rattle.std.specs.Prelude.{slice_get, Some}
use Rattle.std.proofs.lemmas.Bool.{cases_Bool, cases_lt}
use Rattle.std.proofs.lemmas.Option.{none-some, same_Some, slice_get-get_or, slice_get_within}
use Rattle.feeds.specs.Feed.{Subscriber}
use Rattle.hub_core.specs.Counting.{lag_of, greatest_lag}
use Rattle.hub_core.specs.Opened.{open_ids}
use Rattle.hub_core.proofs.Opened.{ids_have, id_open}

module _ {S : Type 0} where
  -- none lags more
  pub lag_most : (latest : ℕ) (l : List (Subscriber S)) (id : ℕ) (a : Subscriber S) → slice_get l id ≡ Some a → lag_of latest a ≤ greatest_lag latest l
  unfolding greatest_lag
  lag_most latest [] id a at = absurd (none-some a at)
  lag_most latest (x ∷ l) zero a at =
      let own : lag_of latest x ≡ lag_of latest a = ap (lag_of latest) (same_Some x a at) in omega (arith, own)
  lag_most latest (x ∷ l) (suc id) a at = omega (arith, lag_most latest l id a at)

  -- and it is no more than each lag may be
  lag_least : (latest most : ℕ) (l : List (Subscriber S)) → ((id : ℕ) (a : Subscriber S) → slice_get l id ≡ Some a → lag_of latest a ≤ most) → greatest_lag latest l ≤ most
  unfolding greatest_lag
  lag_least latest most [] each = omega arith
  lag_least latest most (x ∷ l) each = omega (arith, each 0 x refl, lag_least latest most l (λ id a at. each (suc id) a at))

  -- none of the first open ones, as many as these, lags more
  abbrev pub AreWithin : ℕ → List (Subscriber S) → List ℕ → ℕ → ℕ → Type 0
  AreWithin latest l ids many most = (k id : ℕ) (a : Subscriber S) → k < many → slice_get ids k ≡ Some id → slice_get l id ≡ Some a → lag_of latest a ≤ most

  pub lag_next : (latest greatest own next k : ℕ) (l : List (Subscriber S)) (ids : List ℕ) (a : Subscriber S) → ids ≡ open_ids 0 l → k < length ids → a ≡ get_or l (get_or ids k 0) a → own ≡ lag_of latest a → next ≡ max greatest own
      → greatest ≤ greatest_lag latest l → AreWithin latest l ids k greatest → (next ≤ greatest_lag latest l) × AreWithin latest l ids (k + 1) next
  lag_next latest greatest own next k l ids a are within is counted top below each =
      let here = id_open l ids k a are within is in (
        omega (arith, top, counted, below, lag_most latest l (get_or ids k 0) a here.0),
        λ j id b less at_j at_b. ⊎_elim (λ (front : j < k). omega (arith, top, each j id b front at_j at_b))
            (λ (past : k ≤ j).
            let last : j ≡ k = omega (arith, less, past) in
            let one : get_or ids k 0 ≡ id = same_Some (get_or ids k 0) id (sym (slice_get-get_or ids k 0 within) ∙ subst (λ n. slice_get ids n ≡ Some id) last at_j) in
            let same : a ≡ b = same_Some a b (sym here.0 ∙ subst (λ n. slice_get l n ≡ Some b) (sym one) at_b) in
            let lags : lag_of latest a ≡ lag_of latest b = ap (lag_of latest) same in
            omega (arith, top, counted, lags)) (cases_lt j k),
      )

  pub lag_done : (latest greatest k : ℕ) (l : List (Subscriber S)) (ids : List ℕ) → ids ≡ open_ids 0 l → length ids ≤ k → greatest ≤ greatest_lag latest l → AreWithin latest l ids k greatest → greatest ≡ greatest_lag latest l
  lag_done latest greatest k l ids are past below each =
      let most : greatest_lag latest l ≤ greatest =
      lag_least latest greatest l (λ id a at.
      ⊎_elim (λ (gone : a.closed ≡ true).
      let none : ◌≡◌ {A = ℕ} (lag_of latest a) 0 = ap (λ b. cond b 0 (latest + 1 - a.cursor)) gone in omega (arith, none))
      (λ (here : a.closed ≡ false).
      let has = ids_have l id a at here in
      let there : slice_get ids has.0 ≡ Some id = subst (λ m. slice_get m has.0 ≡ Some id) (sym are) has.1 in
      each has.0 id a (omega (arith, past, slice_get_within ids has.0 id there)) there at) (cases_Bool a.closed)) in
      omega (arith, most, below)
