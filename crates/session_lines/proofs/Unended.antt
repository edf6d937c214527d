-- Bytes among which there is no LF.
use Rattle.std.proofs.Common.{◌≡◌, ◌≢◌, ℕ, suc, zero, ◌+◌, ◌-◌, ◌<◌, ◌≤◌, Bool, true, false, eqb, List, [], ◌∷◌, ◌++◌, length, take, get_or, Some, None, sym, ap, ◌∙◌, arith, inl, inr, length-take, get_or-take}
use Rattle.std.specs.Prelude.{position}
use Rattle.std.specs.List.{position_or_len}
use Rattle.std.proofs.lemmas.Bool.{cases_lt, lt-ltb, ne_eqb, eq-eqb}
use Rattle.std.proofs.lemmas.List.Quantifiers.{position-Some}
use Rattle.std.proofs.lemmas.List.Sums.{fails_before_first}
use Rattle.change_ops.specs.Refusals.{IsUnended}

pub unended_each : (xs : List ℕ) → ((k : ℕ) → k < length xs → eqb (get_or xs k 0) 10 ≡ false) → IsUnended xs
unended_each [] h = tt
unended_each (x ∷ xs) h = (λ e. let f : eqb x 10 ≡ true = eq-eqb x 10 e in let g = h 0 (omega arith) in cc, unended_each xs (λ k lt. h (suc k) (omega arith)))

pub each_unended : (xs : List ℕ) (k : ℕ) → IsUnended xs → k < length xs → get_or xs k 0 ≢ 10
each_unended [] k h lt = absurd (omega arith)
each_unended (x ∷ xs) zero h lt = h.0
each_unended (x ∷ xs) (suc k) h lt = each_unended xs k h.1 (omega arith)

pub unended_append : (xs ys : List ℕ) → IsUnended xs → IsUnended ys → IsUnended (xs ++ ys)
unended_append [] ys h k = k
unended_append (x ∷ xs) ys h k = (h.0, unended_append xs ys h.1 k)

pub unended_take : (n : ℕ) (xs : List ℕ) → IsUnended xs → IsUnended (take n xs)
unended_take zero xs h = tt
unended_take (suc n) [] h = tt
unended_take (suc n) (x ∷ xs) h = (h.0, unended_take n xs h.1)

-- all but the last of the first bytes
pub unended_short : (n : ℕ) (xs : List ℕ) → n ≤ length xs → IsUnended (take (n - 1) xs) → IsUnended (take (n - 1) (take n xs))
unended_short n xs le h =
    unended_each (take (n - 1) (take n xs)) (λ k lt.
    let j : k < n - 1 = omega (arith, length-take (n - 1) (take n xs)) in
    let here : get_or (take (n - 1) (take n xs)) k 0 ≡ get_or (take n xs) k 0 = get_or-take (n - 1) (take n xs) k 0 j in
    let there : get_or (take n xs) k 0 ≡ get_or xs k 0 = get_or-take n xs k 0 (omega arith) in
    let other : get_or (take (n - 1) xs) k 0 ≡ get_or xs k 0 = get_or-take (n - 1) xs k 0 j in
    ne_eqb (get_or (take (n - 1) (take n xs)) k 0) 10 (λ e. each_unended (take (n - 1) xs) k h (omega (arith, length-take (n - 1) xs)) (other ∙ sym there ∙ sym here ∙ e)))

-- what is before the first LF of the first bytes
pub before_feed : (xs : List ℕ) (m i : ℕ) → m ≤ length xs → position (λ b. eqb b 10) (take m xs) ≡ Some i → IsUnended (take (i + 1 - 1) xs)
before_feed xs m i le e =
    let h = position-Some (λ b. eqb b 10) (take m xs) i 0 e in
    let few : i < m = omega (arith, h.0, length-take m xs) in
    let n : i + 1 - 1 ≡ i = omega arith in
    rw n (unended_each (take i xs) (λ k lt.
    let j : k < i = omega (arith, length-take i xs) in
    let other = h.2 k j in
    let here : get_or (take m xs) k 0 ≡ get_or xs k 0 = get_or-take m xs k 0 (omega arith) in
    let there : get_or (take i xs) k 0 ≡ get_or xs k 0 = get_or-take i xs k 0 j in
    ap (λ b. eqb b 10) (there ∙ sym here) ∙ other))

none_passes : (p : ℕ → Bool) (xs : List ℕ) → position p xs ≡ None → (k : ℕ) → k < length xs → p (get_or xs k 0) ≡ false
none_passes p xs e k lt = elim (cases_lt (position_or_len p xs) (length xs)) [
  | inl less ↦ absurd (let f = rw (lt-ltb _ _ less) at e in cc)
  | inr le ↦ fails_before_first p xs k 0 (omega arith)
]

-- the first bytes, where they have no LF
pub no_feed : (xs : List ℕ) (m : ℕ) → m ≤ length xs → position (λ b. eqb b 10) (take m xs) ≡ None → IsUnended (take (m - 1) xs)
no_feed xs m le e =
    unended_each (take (m - 1) xs) (λ k lt.
    let j : k < m - 1 = omega (arith, length-take (m - 1) xs) in
    let other = none_passes (λ b. eqb b 10) (take m xs) e k (omega (arith, length-take m xs)) in
    let here : get_or (take m xs) k 0 ≡ get_or xs k 0 = get_or-take m xs k 0 (omega arith) in
    let there : get_or (take (m - 1) xs) k 0 ≡ get_or xs k 0 = get_or-take (m - 1) xs k 0 j in
    ap (λ b. eqb b 10) (there ∙ sym here) ∙ other)
