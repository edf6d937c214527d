-- How many elements of a list pass a test.
use Rattle.std.proofs.Common.{◌≡◌, ℕ, zero, suc, ◌+◌, ◌<◌, ◌≤◌, Bool, true, false, cond, List, [], ◌∷◌, ◌⊎◌, inl, inr, sym, ap, refl, ◌∙◌, subst, arith, ⊎_elim}
use Rattle.std.specs.List.{Contains, count_by}
use Rattle.std.specs.List.Sorted.{IsPermutation}
use Rattle.std.proofs.lemmas.Bool.{cases_Bool, false≢true}
use Rattle.std.proofs.lemmas.List.Sums.{sum_by-cons}
use Rattle.std.proofs.lemmas.List.Sorted.{sum_by-IsPermutation}
use Rattle.removal_runs.proofs.Joining.{nothing_there}

pub cons_cases : {A : Type 0} (y : A) (ys : List A) (x : A) → Contains (y ∷ ys) x → (y ≡ x) ⊎ Contains ys x
cons_cases y ys x (zero, less, is) = inl is
cons_cases y ys x (suc i, less, is) = inr (i, omega arith, is)

pub at_front : {A : Type 0} (y : A) (ys : List A) → Contains (y ∷ ys) y
at_front y ys = (zero, omega arith, refl)

pub behind_front : {A : Type 0} (y : A) (ys : List A) (x : A) → Contains ys x → Contains (y ∷ ys) x
behind_front y ys x (i, less, is) = (suc i, omega arith, is)

pub count_cons : {A : Type 0} (p : A → Bool) (y : A) (ys : List A) → count_by p (y ∷ ys) ≡ cond (p y) 1 0 + count_by p ys
count_cons p y ys = sum_by-cons (λ x. cond (p x) 1 0) y ys

pub count_moved : {A : Type 0} (p : A → Bool) (xs ys : List A) → IsPermutation xs ys → count_by p ys ≡ count_by p xs
count_moved p xs ys moved = sum_by-IsPermutation (λ x. cond (p x) 1 0) xs ys moved

pub passed : (b : Bool) → b ≡ true → ◌≡◌ {A = ℕ} (cond b 1 0) 1
passed b t = ap {B = ℕ} (λ v. cond v 1 0) t

pub failed : (b : Bool) → b ≡ false → ◌≡◌ {A = ℕ} (cond b 1 0) 0
failed b f = ap {B = ℕ} (λ v. cond v 1 0) f

pub count_none : {A : Type 0} (p : A → Bool) (xs : List A) → ((a : A) → Contains xs a → p a ≡ true → ⊥) → count_by p xs ≡ 0
count_none p [] none = refl
count_none p (x ∷ xs) none =
    let rest = count_none p xs (λ a c. none a (behind_front x xs a c)) in
    let whole = count_cons p x xs in
    ⊎_elim
    (λ (t : p x ≡ true). absurd (none x (at_front x xs) t))
    (λ (f : p x ≡ false). let one = failed (p x) f in omega (arith, rest, whole, one))
    (cases_Bool (p x))

pub count_some : {A : Type 0} (p : A → Bool) (xs : List A) (a : A) → Contains xs a → p a ≡ true → 1 ≤ count_by p xs
count_some p [] a c t = absurd (nothing_there a c)
count_some p (x ∷ xs) a c t =
    let whole = count_cons p x xs in
    ⊎_elim
    (λ (now : x ≡ a). let one = passed (p x) (ap p now ∙ t) in omega (arith, whole, one))
    (λ (old : Contains xs a). let rest = count_some p xs a old t in omega (arith, whole, rest))
    (cons_cases x xs a c)

pub count_two : {A : Type 0} (p : A → Bool) (xs : List A) (a b : A) → Contains xs a → Contains xs b → p a ≡ true → p b ≡ true → (a ≡ b → ⊥) → 2 ≤ count_by p xs
count_two p [] a b c d t u apart = absurd (nothing_there a c)
count_two p (x ∷ xs) a b c d t u apart =
    let whole = count_cons p x xs in
    ⊎_elim
    (λ (first : x ≡ a).
    let one = passed (p x) (ap p first ∙ t) in
    ⊎_elim
    (λ (second : x ≡ b). absurd (apart (sym first ∙ second)))
    (λ (later : Contains xs b). let rest = count_some p xs b later u in omega (arith, whole, one, rest))
    (cons_cases x xs b d))
    (λ (old : Contains xs a).
    ⊎_elim
    (λ (second : x ≡ b).
    let one = passed (p x) (ap p second ∙ u) in
    let rest = count_some p xs a old t in
    omega (arith, whole, one, rest))
    (λ (later : Contains xs b). let rest = count_two p xs a b old later t u apart in omega (arith, whole, rest))
    (cons_cases x xs b d))
    (cons_cases x xs a c)

-- what passes one test passes another
pub count_le : {A : Type 0} (p q : A → Bool) (xs : List A) → ((a : A) → Contains xs a → p a ≡ true → q a ≡ true) → count_by p xs ≤ count_by q xs
count_le p q [] weaker = omega arith
count_le p q (x ∷ xs) weaker =
    let rest = count_le p q xs (λ a c. weaker a (behind_front x xs a c)) in
    let left = count_cons p x xs in
    let right = count_cons q x xs in
    ⊎_elim
    (λ (t : p x ≡ true).
    let one = passed (p x) t in
    let two = passed (q x) (weaker x (at_front x xs) t) in
    omega (arith, rest, left, right, one, two))
    (λ (f : p x ≡ false). let one = failed (p x) f in omega (arith, rest, left, right, one))
    (cases_Bool (p x))

-- what passes one test passes just one of two others
pub count_apart : {A : Type 0} (p q m : A → Bool) (xs : List A) → ((a : A) → Contains xs a → cond (p a) 1 0 ≡ cond (q a) 1 0 + cond (m a) 1 0) → count_by p xs ≡ count_by q xs + count_by m xs
count_apart p q m [] each = refl
count_apart p q m (x ∷ xs) each =
    let rest = count_apart p q m xs (λ a c. each a (behind_front x xs a c)) in
    let here = each x (at_front x xs) in
    let whole = count_cons p x xs in
    let left = count_cons q x xs in
    let right = count_cons m x xs in
    omega (arith, rest, here, whole, left, right)
