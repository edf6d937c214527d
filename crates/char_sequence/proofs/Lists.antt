-- Elements of a list by their indices.
use Rattle.std.proofs.Common.{◌≡◌, ◌≢◌, ℕ, zero, suc, ◌<◌, ◌≤◌, List, [], ◌∷◌, ◌++◌, Some, inl, inr, ◌⊎◌, length, set, sym, ap, refl, ◌∙◌, subst, arith, ⊎_elim}
use Rattle.std.specs.List.{slice_get, insert}
use Rattle.std.proofs.lemmas.Option.{same_Some, none-some, gets}
use Rattle.std.proofs.lemmas.Bool.{cases_eq}
use Rattle.std.proofs.lemmas.Grind.{common_steps}

pub slice_get_set_same : {X : Type 0} (xs : List X) (i : ℕ) (y : X) → i < length xs → slice_get (set xs i y) i ≡ Some y
slice_get_set_same xs i y h = grind (arith, common_steps, gets)

pub slice_get_set_other : {X : Type 0} (xs : List X) (i j : ℕ) (y : X) → j ≢ i → slice_get (set xs i y) j ≡ slice_get xs j
slice_get_set_other xs i j y h = grind (arith, common_steps, gets)

-- where an element of a list with one more came from
pub inserted_cases : {X : Type 0} (xs : List X) (k : ℕ) (e : X) (i : ℕ) (x : X) → k ≤ length xs → slice_get (insert xs k e) i ≡ Some x → ((i < k) × (slice_get xs i ≡ Some x)) ⊎ (((i ≡ k) × (e ≡ x)) ⊎ ((j : ℕ) × (i ≡ suc j) × (k ≤ j) × (slice_get xs j ≡ Some x)))
inserted_cases xs zero e zero x h g = inr (inl (refl, same_Some e x g))
inserted_cases xs zero e (suc i) x h g = inr (inr (i, refl, omega arith, g))
inserted_cases [] (suc k) e i x h g = absurd (omega arith)
inserted_cases (y ∷ ys) (suc k) e zero x h g = inl (omega arith, g)
inserted_cases (y ∷ ys) (suc k) e (suc i) x h g =
    ⊎_elim
    (λ (a : (i < k) × (slice_get ys i ≡ Some x)). let low : i < k = a.0 in inl (omega arith, a.1))
    (λ (r : ((i ≡ k) × (e ≡ x)) ⊎ ((j : ℕ) × (i ≡ suc j) × (k ≤ j) × (slice_get ys j ≡ Some x))).
    ⊎_elim
    (λ (a : (i ≡ k) × (e ≡ x)). inr (inl (ap suc a.0, a.1)))
    (λ (a : (j : ℕ) × (i ≡ suc j) × (k ≤ j) × (slice_get ys j ≡ Some x)).
    let le : k ≤ a.0 = a.2 in
    inr (inr (suc a.0, ap suc a.1, omega arith, a.3)))
    r)
    (inserted_cases ys k e i x (omega arith) g)

pub inserted_here : {X : Type 0} (xs : List X) (k : ℕ) (e : X) → k ≤ length xs → slice_get (insert xs k e) k ≡ Some e
inserted_here xs zero e h = refl
inserted_here [] (suc k) e h = absurd (omega arith)
inserted_here (y ∷ ys) (suc k) e h = inserted_here ys k e (omega arith)

pub inserted_after : {X : Type 0} (xs : List X) (k : ℕ) (e : X) (j : ℕ) (x : X) → k ≤ length xs → slice_get xs j ≡ Some x → (i : ℕ) × (j ≤ i) × (slice_get (insert xs k e) i ≡ Some x)
inserted_after xs zero e j x h g = (suc j, omega arith, g)
inserted_after [] (suc k) e j x h g = absurd (omega arith)
inserted_after (y ∷ ys) (suc k) e zero x h g = (zero, omega arith, g)
inserted_after (y ∷ ys) (suc k) e (suc j) x h g =
    let r = inserted_after ys k e j x (omega arith) g in
    let on : j ≤ r.0 = r.1 in
    (suc r.0, omega arith, r.2)

pub inserted_still : {X : Type 0} (xs : List X) (k : ℕ) (e : X) (j : ℕ) (x : X) → k ≤ length xs → slice_get xs j ≡ Some x → (i : ℕ) × (slice_get (insert xs k e) i ≡ Some x)
inserted_still xs k e j x h g = let r = inserted_after xs k e j x h g in (r.0, r.2)

pub set_cases : {X : Type 0} (xs : List X) (k : ℕ) (e : X) (i : ℕ) (x : X) → k < length xs → slice_get (set xs k e) i ≡ Some x → ((i ≡ k) × (e ≡ x)) ⊎ ((i ≢ k) × (slice_get xs i ≡ Some x))
set_cases xs k e i x h g =
    ⊎_elim
    (λ (same : i ≡ k). inl (same, same_Some e x (sym (slice_get_set_same xs k e h) ∙ ap (slice_get (set xs k e)) (sym same) ∙ g)))
    (λ (other : i ≡ k → ⊥). inr (other, sym (slice_get_set_other xs k i e other) ∙ g))
    (cases_eq i k)

-- two lists in one strict order with the same members are one
abbrev pub InOrder : {X : Type 0} → (X → X → Type 0) → List X → Type 0
InOrder {X} R xs = (i j : ℕ) (x y : X) → i < j → slice_get xs i ≡ Some x → slice_get xs j ≡ Some y → R x y

abbrev pub MembersOf : {X : Type 0} → List X → List X → Type 0
MembersOf {X} xs ys = (i : ℕ) (x : X) → slice_get xs i ≡ Some x → (j : ℕ) × (slice_get ys j ≡ Some x)

in_order_tail : {X : Type 0} (R : X → X → Type 0) (x : X) (xs : List X) → InOrder R (x ∷ xs) → InOrder R xs
in_order_tail R x xs o i j a b l g h = o (suc i) (suc j) a b (omega arith) g h

first_or_later : {X : Type 0} (R : X → X → Type 0) (x y : X) (ys : List X) → InOrder R (y ∷ ys) → (j : ℕ) → slice_get (y ∷ ys) j ≡ Some x → (x ≡ y) ⊎ R y x
first_or_later R x y ys o zero g = inl (sym (same_Some y x g))
first_or_later R x y ys o (suc j) g = inr (o zero (suc j) y x (omega arith) refl g)

member_later : {X : Type 0} (R : X → X → Type 0) → ((a b : X) → R a b → R b a → ⊥) → (x y : X) (xs ys : List X) (z : X) (i : ℕ) → slice_get xs i ≡ Some z → x ≡ y → InOrder R (x ∷ xs) → (j : ℕ) → slice_get (y ∷ ys) j ≡ Some z → (k : ℕ) × (slice_get ys k ≡ Some z)
member_later R asym x y xs ys z i g same o zero h =
    let one : x ≡ z = same ∙ same_Some y z h in
    let r : R x z = o zero (suc i) x z (omega arith) refl g in
    let r' : R z z = subst (λ w. R w z) one r in
    absurd (asym z z r' r')
member_later R asym x y xs ys z i g same o (suc j) h = (j, h)

members_tail : {X : Type 0} (R : X → X → Type 0) → ((a b : X) → R a b → R b a → ⊥) → (x y : X) (xs ys : List X) → x ≡ y → InOrder R (x ∷ xs) → MembersOf (x ∷ xs) (y ∷ ys) → MembersOf xs ys
members_tail R asym x y xs ys same o m i z g =
    let r = m (suc i) z g in
    member_later R asym x y xs ys z i g same o r.0 r.1

pub same_in_order : {X : Type 0} (R : X → X → Type 0) → ((a b : X) → R a b → R b a → ⊥) → (xs ys : List X) → InOrder R xs → InOrder R ys → MembersOf xs ys → MembersOf ys xs → xs ≡ ys
same_in_order R asym [] [] o p m n = refl
same_in_order R asym [] (y ∷ ys) o p m n = absurd (none-some y (n zero y refl).1)
same_in_order R asym (x ∷ xs) [] o p m n = absurd (none-some x (m zero x refl).1)
same_in_order R asym (x ∷ xs) (y ∷ ys) o p m n =
    let a = m zero x refl in
    let b = n zero y refl in
    let same : x ≡ y =
    ⊎_elim
    (λ (e : x ≡ y). e)
    (λ (r : R y x).
    ⊎_elim
    (λ (e : y ≡ x). sym e)
    (λ (s : R x y). absurd (asym x y s r))
    (first_or_later R y x xs o b.0 b.1))
    (first_or_later R x y ys p a.0 a.1)
    in
    let rest : xs ≡ ys =
    same_in_order R asym xs ys (in_order_tail R x xs o) (in_order_tail R y ys p)
    (members_tail R asym x y xs ys same o m)
    (members_tail R asym y x ys xs (sym same) p n)
    in
    cc

-- one more where one list ends and another begins
pub insert_append : {X : Type 0} (front back : List X) (x : X) → insert (front ++ back) (length front) x ≡ front ++ x ∷ back
insert_append [] back x = refl
insert_append (y ∷ front) back x = ap (λ l. y ∷ l) (insert_append front back x)
