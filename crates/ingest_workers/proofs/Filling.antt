-- A share that has as many calls as there are entries has each.
use Rattle.std.proofs.Common.{◌≡◌, ◌⊎◌, ℕ, zero, suc, ◌+◌, ◌≤◌, ◌<◌, Bool, true, cond, List, [], ◌∷◌, length, count_by, refl, ap, subst, inl, inr, ⊎_elim, arith, lt_irrefl, not-suc-le-zero, le_of_suc-le-suc}
use Rattle.std.proofs.lemmas.List.Sums.{sum_by-cons}
use Rattle.call_history.specs.Calls.{Holds, Has, AreDistinct, is_at, IsWhole}
use Rattle.call_history.proofs.Places.{count_most}

is_same : (x k : ℕ) → (x ≡ k) ⊎ (x ≡ k → ⊥)
is_same zero zero = inl refl
is_same zero (suc k) = inr (λ e. lt_irrefl (suc k) (subst (λ n. n < suc k) e (omega arith)))
is_same (suc x) zero = inr (λ e. not-suc-le-zero (subst (λ n. 0 < n) e (omega arith)))
is_same (suc x) (suc k) =
    ⊎_elim (λ (e : x ≡ k). inl (ap suc e)) (λ (n : x ≡ k → ⊥). inr (λ e. n (omega (arith, e)))) (is_same x k)

is_there : (xs : List ℕ) (k : ℕ) → Has xs k ⊎ (Has xs k → ⊥)
is_there [] k = inr (λ h. h)
is_there (x ∷ xs) k =
    ⊎_elim (λ (e : x ≡ k). inl (inl e)) (λ (n : x ≡ k → ⊥). ⊎_elim (λ (h : Has xs k). inl (inr h)) (λ (m : Has xs k → ⊥). inr (λ h. ⊎_elim n m h)) (is_there xs k)) (is_same x k)

module _ {E : Type 0} where
  abbrev any : E → Bool
  any e = true

  at_any : (log : List E) (k : ℕ) → k < length log → is_at any log k ≡ true
  at_any [] k h = absurd (not-suc-le-zero h)
  at_any (e ∷ log) zero h = refl
  at_any (e ∷ log) (suc k) h = at_any log k (le_of_suc-le-suc h)

  count_any : (log : List E) → count_by any log ≡ length log
  count_any [] = refl
  count_any (e ∷ log) =
      let more : count_by any (e ∷ log) ≡ 1 + count_by any log = sum_by-cons (λ x. cond (any x) 1 0) e log in
      omega (arith, more, count_any log)

  count_at : (log : List E) (own : List ℕ) → ((k : ℕ) → Has own k → k < length log) → count_by (is_at any log) own ≡ length own
  count_at log [] within = refl
  count_at log (x ∷ xs) within =
      let more : count_by (is_at any log) (x ∷ xs) ≡ cond (is_at any log x) 1 0 + count_by (is_at any log) xs = sum_by-cons (λ k. cond (is_at any log k) 1 0) x xs in
      let one : cond {A = ℕ} (is_at any log x) 1 0 ≡ 1 = ap (λ b. cond b 1 0) (at_any log x (within x (inl refl))) in
      omega (arith, more, one, count_at log xs (λ k h. within k (inr h)))

  -- no more distinct places than there are entries
  few_distinct : (log : List E) (own : List ℕ) → AreDistinct own → ((k : ℕ) → Has own k → k < length log) → length own ≤ length log
  few_distinct log own distinct within =
      let all : Holds E = record { seen = log; own = own; parts = 0 } in
      omega (
        arith,
        count_most any all (record { within = within; distinct = distinct }),
        count_any log,
        count_at log own within,
      )

  pub each_is_own : (rule : List E → Type 0) (log : List E) (v : Holds E) → IsWhole rule log v → (k : ℕ) → k < length log → Has v.own k
  each_is_own rule log v whole k below =
      ⊎_elim (λ (h : Has v.own k). h) (λ (n : Has v.own k → ⊥). absurd (too_many n)) (is_there v.own k)
    where
      too_many : (Has v.own k → ⊥) → ⊥
      too_many n =
          let few = few_distinct log (k ∷ v.own) (n, whole.distinct) (λ j h. ⊎_elim (λ (e : k ≡ j). subst (λ i. i < length log) e below) (λ (r : Has v.own j). whole.places j r) h) in
          lt_irrefl (length log) (omega (arith, few, whole.count))
