-- Elements of a list by their indices.
use Rattle.std.proofs.Common.{◌≡◌, ℕ, zero, suc, ◌+◌, ◌<◌, ◌≤◌, List, [], ◌∷◌, ◌++◌, Some, ◌⊎◌, inl, inr, length, get_or, set, sym, ap, refl, ◌∙◌, subst, arith, ⊎_elim, get_or-set_same, get_or-set_other}
use Rattle.std.specs.List.{slice_get, Contains}
use Rattle.std.proofs.lemmas.Bool.{cases_lt, cases_eq}
use Rattle.std.proofs.lemmas.Option.{same_Some, none-some, slice_get-get_or, get_or_from_slice_get, slice_get_within}

-- what was read at an index stands there
pub read_at : {X : Type 0} (xs : List X) (i : ℕ) (x : X) → x ≡ get_or xs i x → i < length xs → slice_get xs i ≡ Some x
read_at xs i x is within = slice_get-get_or xs i x within ∙ ap Some (sym is)

pub contains_at : {X : Type 0} (xs : List X) (x : X) → Contains xs x → (i : ℕ) × (slice_get xs i ≡ Some x)
contains_at xs x (i, within, is) = (i, slice_get-get_or xs i x within ∙ ap Some is)

pub contains_from : {X : Type 0} (xs : List X) (i : ℕ) (x : X) → slice_get xs i ≡ Some x → Contains xs x
contains_from xs i x g = (i, slice_get_within xs i x g, get_or_from_slice_get xs i x x g)

-- what stands at an index below k + 1 stands below k, or at k
pub first_or_last : {X : Type 0} (xs : List X) (k j : ℕ) (x y : X) → j < k + 1 → slice_get xs k ≡ Some x → slice_get xs j ≡ Some y → (j < k) ⊎ ((j ≡ k) × (x ≡ y))
first_or_last xs k j x y l at g =
    ⊎_elim
    (λ (less : j < k). inl less)
    (λ (ge : k ≤ j).
    let same : j ≡ k = omega arith in
    inr (same, same_Some x y (sym at ∙ ap (slice_get xs) (sym same) ∙ g)))
    (cases_lt j k)

-- ---- one more at the end
pub pushed_at : {X : Type 0} (xs : List X) (y : X) (i : ℕ) (x : X) → slice_get (xs ++ y ∷ []) i ≡ Some x → (slice_get xs i ≡ Some x) ⊎ ((i ≡ length xs) × (y ≡ x))
pushed_at [] y zero x g = inr (refl, same_Some y x g)
pushed_at [] y (suc i) x g = inl g
pushed_at (z ∷ zs) y zero x g = inl g
pushed_at (z ∷ zs) y (suc i) x g =
    ⊎_elim
    (λ (old : slice_get zs i ≡ Some x). inl old)
    (λ (new : (i ≡ length zs) × (y ≡ x)). inr (ap suc new.0, new.1))
    (pushed_at zs y i x g)

pub pushed_cases : {X : Type 0} (xs : List X) (y : X) (i : ℕ) (x : X) → slice_get (xs ++ y ∷ []) i ≡ Some x → (slice_get xs i ≡ Some x) ⊎ (y ≡ x)
pushed_cases xs y i x g =
    ⊎_elim
    (λ (old : slice_get xs i ≡ Some x). inl old)
    (λ (new : (i ≡ length xs) × (y ≡ x)). inr new.1)
    (pushed_at xs y i x g)

pub pushed_here : {X : Type 0} (xs : List X) (y : X) → slice_get (xs ++ y ∷ []) (length xs) ≡ Some y
pushed_here [] y = refl
pushed_here (x ∷ xs) y = pushed_here xs y

pub pushed_still : {X : Type 0} (xs : List X) (y : X) (i : ℕ) (x : X) → slice_get xs i ≡ Some x → slice_get (xs ++ y ∷ []) i ≡ Some x
pushed_still [] y i x g = absurd (none-some x g)
pushed_still (z ∷ zs) y zero x g = g
pushed_still (z ∷ zs) y (suc i) x g = pushed_still zs y i x g

-- there is an element at each index
pub item_at : {X : Type 0} (xs : List X) (i : ℕ) → i < length xs → (x : X) × (slice_get xs i ≡ Some x)
item_at [] i less = absurd (omega arith)
item_at (x ∷ xs) zero less = (x, refl)
item_at (x ∷ xs) (suc i) less = item_at xs i (omega arith)

-- what holds of each element below n, and of one that is put at n, holds of each below n + 1
pub set_more : {X : Type 0} (P : ℕ → X → Type 0) (xs : List X) (n : ℕ) (y d : X) → n < length xs → ((k : ℕ) → k < n → P k (get_or xs k d)) → P n y → (k : ℕ) → k < n + 1 → P k (get_or (set xs n y) k d)
set_more P xs n y d within old new k less =
    ⊎_elim
    (λ (same : k ≡ n). subst (λ z. P z (get_or (set xs n y) z d)) (sym same) (subst (P n) (sym (get_or-set_same xs n y d within)) new))
    (λ (apart : k ≡ n → ⊥). subst (P k) (sym (get_or-set_other xs n k y d apart)) (old k (omega arith)))
    (cases_eq k n)
