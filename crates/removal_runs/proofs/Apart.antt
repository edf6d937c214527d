-- Things that lie in order, by their places.
use Rattle.std.proofs.Common.{◌≡◌, ℕ, zero, suc, ◌<◌, ◌≤◌, List, [], ◌∷◌, Some, get_or, set, ap, refl, subst, arith, ⊎_elim}
use Rattle.std.specs.List.{slice_get, insert}
use Rattle.std.specs.List.Sorted.{IsNonDecreasingBy}
use Rattle.std.proofs.lemmas.Option.{same_Some, none-some, slice_get-get_or}
use Rattle.std.proofs.lemmas.Bool.{cases_lt}
use Rattle.removal_runs.specs.Apart.{AreApart}

pub low_is_below : {X : Type 0} (begin end : X → ℕ) (low : ℕ) (xs : List X) (high j : ℕ) (b : X) → AreApart begin end low xs high → slice_get xs j ≡ Some b → low ≤ begin b
low_is_below begin end low [] high j b apart at = absurd (none-some b at)
low_is_below begin end low (x ∷ xs) high zero b apart at = subst (λ z. low ≤ begin z) (same_Some x b at) apart.0
low_is_below begin end low (x ∷ xs) high (suc j) b apart at =
    let first : low ≤ begin x = apart.0 in
    let some : begin x < end x = apart.1 in
    let rest : end x ≤ begin b = low_is_below begin end (end x) xs high j b apart.2 at in
    omega arith

pub is_some : {X : Type 0} (begin end : X → ℕ) (low : ℕ) (xs : List X) (high j : ℕ) (b : X) → AreApart begin end low xs high → slice_get xs j ≡ Some b → begin b < end b
is_some begin end low [] high j b apart at = absurd (none-some b at)
is_some begin end low (x ∷ xs) high zero b apart at = subst (λ z. begin z < end z) (same_Some x b at) apart.1
is_some begin end low (x ∷ xs) high (suc j) b apart at = is_some begin end (end x) xs high j b apart.2 at

pub low_to_high : {X : Type 0} (begin end : X → ℕ) (low : ℕ) (xs : List X) (high : ℕ) → AreApart begin end low xs high → low ≤ high
low_to_high begin end low [] high apart = apart
low_to_high begin end low (x ∷ xs) high apart =
    let first : low ≤ begin x = apart.0 in
    let some : begin x < end x = apart.1 in
    let rest : end x ≤ high = low_to_high begin end (end x) xs high apart.2 in
    omega arith

pub high_is_above : {X : Type 0} (begin end : X → ℕ) (low : ℕ) (xs : List X) (high j : ℕ) (b : X) → AreApart begin end low xs high → slice_get xs j ≡ Some b → end b ≤ high
high_is_above begin end low [] high j b apart at = absurd (none-some b at)
high_is_above begin end low (x ∷ xs) high zero b apart at = subst (λ z. end z ≤ high) (same_Some x b at) (low_to_high begin end (end x) xs high apart.2)
high_is_above begin end low (x ∷ xs) high (suc j) b apart at = high_is_above begin end (end x) xs high j b apart.2 at

-- each ends where a later one begins, or before that
pub ends_before : {X : Type 0} (begin end : X → ℕ) (low : ℕ) (xs : List X) (high i j : ℕ) (a b : X) → AreApart begin end low xs high → i < j → slice_get xs i ≡ Some a → slice_get xs j ≡ Some b → end a ≤ begin b
ends_before begin end low [] high i j a b apart less at_i at_j = absurd (none-some a at_i)
ends_before begin end low (x ∷ xs) high zero zero a b apart less at_i at_j = absurd (omega arith)
ends_before begin end low (x ∷ xs) high zero (suc j) a b apart less at_i at_j = subst (λ z. end z ≤ begin b) (same_Some x a at_i) (low_is_below begin end (end x) xs high j b apart.2 at_j)
ends_before begin end low (x ∷ xs) high (suc i) zero a b apart less at_i at_j = absurd (omega arith)
ends_before begin end low (x ∷ xs) high (suc i) (suc j) a b apart less at_i at_j = ends_before begin end (end x) xs high i j a b apart.2 (omega arith) at_i at_j

-- a place before another is of a lesser or the same begin
pub begins_rise : {X : Type 0} (begin end : X → ℕ) (low : ℕ) (xs : List X) (high : ℕ) → AreApart begin end low xs high → IsNonDecreasingBy begin xs
begins_rise begin end low xs high apart =
    λ i j d le within.
    ⊎_elim
    (λ (less : i < j).
    let a = get_or xs i d in
    let b = get_or xs j d in
    let at_i = slice_get-get_or xs i d (omega arith) in
    let at_j = slice_get-get_or xs j d within in
    let some : begin a < end a = is_some begin end low xs high i a apart at_i in
    let before : end a ≤ begin b = ends_before begin end low xs high i j a b apart less at_i at_j in
    omega arith)
    (λ (ge : j ≤ i).
    let same : i ≡ j = omega arith in
    let eq : begin (get_or xs i d) ≡ begin (get_or xs j d) = ap (λ k. begin (get_or xs k d)) same in
    omega arith)
    (cases_lt i j)

-- of two whose parts have a number in common, the places are one
pub one_place : {X : Type 0} (begin end : X → ℕ) (low : ℕ) (xs : List X) (high i j : ℕ) (a b : X) (number : ℕ) → AreApart begin end low xs high → slice_get xs i ≡ Some a → slice_get xs j ≡ Some b → begin a ≤ number → number < end a → begin b ≤ number → number < end b → i ≡ j
one_place begin end low xs high i j a b number apart at_i at_j from_a to_a from_b to_b =
    ⊎_elim
    (λ (less : i < j). let before : end a ≤ begin b = ends_before begin end low xs high i j a b apart less at_i at_j in absurd (omega arith))
    (λ (ge : j ≤ i).
    ⊎_elim
    (λ (more : j < i). let before : end b ≤ begin a = ends_before begin end low xs high j i b a apart more at_j at_i in absurd (omega arith))
    (λ (le : i ≤ j). omega arith)
    (cases_lt j i))
    (cases_lt i j)

-- ---- changes that keep things apart
abbrev pub AllBefore : {X : Type 0} → (X → ℕ) → List X → ℕ → ℕ → Type 0
AllBefore {X} end xs i number = (k : ℕ) (y : X) → k < i → slice_get xs k ≡ Some y → end y ≤ number

abbrev pub AllBehind : {X : Type 0} → (X → ℕ) → List X → ℕ → ℕ → Type 0
AllBehind {X} begin xs i number = (k : ℕ) (y : X) → i ≤ k → slice_get xs k ≡ Some y → number ≤ begin y

starting : {X : Type 0} (begin end : X → ℕ) (low : ℕ) (xs : List X) (high from : ℕ) → AreApart begin end low xs high → from ≤ high → AllBehind begin xs 0 from → AreApart begin end from xs high
starting begin end low [] high from apart le behind = le
starting begin end low (x ∷ xs) high from apart le behind = (behind zero x (omega arith) refl, apart.1, apart.2)

pub insert_apart : {X : Type 0} (begin end : X → ℕ) (low : ℕ) (xs : List X) (high i : ℕ) (z : X) → AreApart begin end low xs high → low ≤ begin z → begin z < end z → end z ≤ high → AllBefore end xs i (begin z) → AllBehind begin xs i (end z) → AreApart begin end low (insert xs i z) high
insert_apart begin end low xs high zero z apart from some to before behind = (from, some, starting begin end low xs high (end z) apart to behind)
insert_apart begin end low [] high (suc i) z apart from some to before behind = (from, some, to)
insert_apart begin end low (x ∷ xs) high (suc i) z apart from some to before behind = (
  apart.0,
  apart.1,
  insert_apart begin end (end x) xs high i z apart.2 (before zero x (omega arith) refl) some to
      (λ k y less at. before (suc k) y (omega arith) at) (λ k y le at. behind (suc k) y (omega arith) at),
)

pub set_apart : {X : Type 0} (begin end : X → ℕ) (low : ℕ) (xs : List X) (high i : ℕ) (z : X) → AreApart begin end low xs high → low ≤ begin z → begin z < end z → end z ≤ high → AllBefore end xs i (begin z) → AllBehind begin xs (suc i) (end z) → AreApart begin end low (set xs i z) high
set_apart begin end low [] high i z apart from some to before behind = apart
set_apart begin end low (x ∷ xs) high zero z apart from some to before behind = (
  from,
  some,
  starting begin end (end x) xs high (end z) apart.2 to (λ k y le at. behind (suc k) y (omega arith) at),
)
set_apart begin end low (x ∷ xs) high (suc i) z apart from some to before behind = (
  apart.0,
  apart.1,
  set_apart begin end (end x) xs high i z apart.2 (before zero x (omega arith) refl) some to
      (λ k y less at. before (suc k) y (omega arith) at) (λ k y le at. behind (suc k) y (omega arith) at),
)
