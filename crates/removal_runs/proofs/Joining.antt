-- Lists joined of the lists that things stand for: what stands in them, and what one more element changes.
use Rattle.std.proofs.Common.{◌≡◌, ℕ, zero, suc, ◌+◌, ◌<◌, List, [], ◌∷◌, ◌++◌, Some, length, get_or, set, take, map, sym, ap, refl, ◌∙◌, subst, arith, ⊎_elim, append-nil, length-append}
use Rattle.std.specs.List.{slice_get, insert, flat_map, Contains}
use Rattle.std.specs.List.Sorted.{IsPermutation}
use Rattle.std.proofs.lemmas.List.{take_more}
use Rattle.std.proofs.lemmas.List.Concat.{flat_map-append}
use Rattle.std.proofs.lemmas.Option.{same_Some, none-some}
use Rattle.std.proofs.lemmas.List.Elements.{Contains-append_left, Contains-append_right, Contains-append_cases}
use Rattle.std.proofs.lemmas.List.Sorted.{IsPermutation-refl, IsPermutation-sym, IsPermutation-trans, IsPermutation-append_left, IsPermutation-append_right, IsPermutation-middle, IsPermutation-to_front}

-- ---- what stands in a joined list
pub record StandsIn {X A : Type 0} (parts : X → List A) (xs : List X) (a : A) : Type 0 where
  pub place : ℕ
  pub part : X
  pub at : slice_get xs place ≡ Some part
  pub has : Contains (parts part) a

pub nothing_there : {A : Type 0} (a : A) → Contains [] a → ⊥
nothing_there a h = let none : h.0 < 0 = h.1 in omega arith

pub stands_in : {X A : Type 0} (parts : X → List A) (xs : List X) (a : A) → Contains (flat_map parts xs) a → StandsIn parts xs a
stands_in parts [] a h = absurd (nothing_there a h)
stands_in parts (x ∷ xs) a h =
    ⊎_elim
    (λ (here : Contains (parts x) a). record { place = zero; part = x; at = refl; has = here })
    (λ (later : Contains (flat_map parts xs) a). let r = stands_in parts xs a later in record { place = suc r.place; part = r.part; at = r.at; has = r.has })
    (Contains-append_cases (parts x) (flat_map parts xs) a h)

pub from_part : {X A : Type 0} (parts : X → List A) (xs : List X) (k : ℕ) (x : X) (a : A) → slice_get xs k ≡ Some x → Contains (parts x) a → Contains (flat_map parts xs) a
from_part parts [] k x a at has = absurd (none-some x at)
from_part parts (y ∷ ys) zero x a at has = Contains-append_left (parts y) (flat_map parts ys) a (subst (λ z. Contains (parts z) a) (sym (same_Some y x at)) has)
from_part parts (y ∷ ys) (suc k) x a at has = Contains-append_right (parts y) (flat_map parts ys) a (from_part parts ys k x a at has)

-- ---- one more element in a part
pub more_in_part : {X A : Type 0} (parts : X → List A) (xs : List X) (i : ℕ) (x z : X) (a : A) → slice_get xs i ≡ Some x → IsPermutation (a ∷ parts x) (parts z) → IsPermutation (a ∷ flat_map parts xs) (flat_map parts (set xs i z))
more_in_part parts [] i x z a at more = absurd (none-some x at)
more_in_part parts (y ∷ ys) zero x z a at more =
    IsPermutation-append_left (flat_map parts ys) (a ∷ parts y) (parts z)
    (subst (λ w. IsPermutation (a ∷ parts w) (parts z)) (sym (same_Some y x at)) more)
more_in_part parts (y ∷ ys) (suc i) x z a at more =
    IsPermutation-trans (a ∷ (parts y ++ flat_map parts ys)) (parts y ++ a ∷ flat_map parts ys) (parts y ++ flat_map parts (set ys i z))
    (IsPermutation-sym (parts y ++ a ∷ flat_map parts ys) (a ∷ (parts y ++ flat_map parts ys)) (IsPermutation-middle (parts y) a (flat_map parts ys)))
    (IsPermutation-append_right (parts y) (a ∷ flat_map parts ys) (flat_map parts (set ys i z)) (more_in_part parts ys i x z a at more))

pub one_more : {A : Type 0} (xs : List A) (a : A) → IsPermutation (a ∷ xs) (xs ++ a ∷ [])
one_more xs a = IsPermutation-sym (xs ++ a ∷ []) (a ∷ xs) (IsPermutation-to_front xs a)

-- a part of one element is inserted
pub inserted_part : {X A : Type 0} (parts : X → List A) (xs : List X) (i : ℕ) (z : X) (a : A) → IsPermutation (a ∷ []) (parts z) → IsPermutation (a ∷ flat_map parts xs) (flat_map parts (insert xs i z))
inserted_part parts xs zero z a one = IsPermutation-append_left (flat_map parts xs) (a ∷ []) (parts z) one
inserted_part parts [] (suc i) z a one = IsPermutation-append_left [] (a ∷ []) (parts z) one
inserted_part parts (y ∷ ys) (suc i) z a one =
    IsPermutation-trans (a ∷ (parts y ++ flat_map parts ys)) (parts y ++ a ∷ flat_map parts ys) (parts y ++ flat_map parts (insert ys i z))
    (IsPermutation-sym (parts y ++ a ∷ flat_map parts ys) (a ∷ (parts y ++ flat_map parts ys)) (IsPermutation-middle (parts y) a (flat_map parts ys)))
    (IsPermutation-append_right (parts y) (a ∷ flat_map parts ys) (flat_map parts (insert ys i z)) (inserted_part parts ys i z a one))

pub part_inserted : {X A : Type 0} (parts : X → List A) (xs : List X) (i : ℕ) (z : X) (a : A) → parts z ≡ a ∷ [] → IsPermutation (a ∷ flat_map parts xs) (flat_map parts (insert xs i z))
part_inserted parts xs i z a one = inserted_part parts xs i z a (subst (λ w. IsPermutation (a ∷ []) w) (sym one) (IsPermutation-refl (a ∷ [])))

-- a part that stays as it was
pub same_part : {X A : Type 0} (parts : X → List A) (xs : List X) (i : ℕ) (x z : X) → slice_get xs i ≡ Some x → parts z ≡ parts x → flat_map parts (set xs i z) ≡ flat_map parts xs
same_part parts [] i x z at same = refl
same_part parts (y ∷ ys) zero x z at same = ap (λ w. w ++ flat_map parts ys) (same ∙ ap parts (sym (same_Some y x at)))
same_part parts (y ∷ ys) (suc i) x z at same = ap (λ w. parts y ++ w) (same_part parts ys i x z at same)

-- ---- what stands in a mapped list
pub mapped_from : {A B : Type 0} (f : A → B) (xs : List A) (b : B) → Contains (map f xs) b → (a : A) × Contains xs a × (f a ≡ b)
mapped_from f [] b h = absurd (nothing_there b h)
mapped_from f (x ∷ xs) b (zero, within, at) = (x, (zero, omega arith, refl), at)
mapped_from f (x ∷ xs) b (suc k, within, at) =
    let r = mapped_from f xs b (k, omega (arith, within), at) in
    let has = r.1 in
    (r.0, Contains-append_right (x ∷ []) xs r.0 has, r.2)

pub mapped_to : {A B : Type 0} (f : A → B) (xs : List A) (a : A) → Contains xs a → Contains (map f xs) (f a)
mapped_to f [] a h = absurd (nothing_there a h)
mapped_to f (x ∷ xs) a (zero, within, at) = (zero, omega arith, ap f at)
mapped_to f (x ∷ xs) a (suc k, within, at) = Contains-append_right (f x ∷ []) (map f xs) (f a) (mapped_to f xs a (k, omega (arith, within), at))

-- ---- the parts counted one by one
pub counted_more : {X A : Type 0} (parts : X → List A) (xs : List X) (i : ℕ) (x : X) → i < length xs → x ≡ get_or xs i x → length (flat_map parts (take (i + 1) xs)) ≡ length (flat_map parts (take i xs)) + length (parts x)
counted_more parts xs i x within read =
    ap (λ z. length (flat_map parts z)) (take_more xs i x within)
    ∙ ap length (flat_map-append parts (take i xs) (get_or xs i x ∷ []))
    ∙ length-append (flat_map parts (take i xs)) (parts (get_or xs i x) ++ [])
    ∙ ap (λ z. length (flat_map parts (take i xs)) + length z) (append-nil (parts (get_or xs i x)))
    ∙ ap (λ z. length (flat_map parts (take i xs)) + length (parts z)) (sym read)
