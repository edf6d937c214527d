-- Chunks one after another, by position and place.
use Rattle.std.proofs.Common.{◌≡◌, ℕ, zero, suc, ◌+◌, ◌-◌, ◌<◌, ◌≤◌, List, [], ◌∷◌, ◌++◌, Some, inl, inr, ◌⊎◌, ◌*◌, length, set, take, sym, ap, refl, ◌∙◌, subst, arith, ⊎_elim, append_assoc, length-append}
use Rattle.std.specs.List.{slice_get, insert}
use Rattle.std.proofs.lemmas.Option.{same_Some, none-some, slice_get_within}
use Rattle.std.proofs.lemmas.Bool.{cases_lt}
use Rattle.std.proofs.lemmas.List.{set-append_left, set-append_right}
use Rattle.std.proofs.lemmas.List.Edits.{insert-append_left, insert-append_right}
use Rattle.char_sequence.specs.declared.sequence.Element.{Element}
use Rattle.char_sequence.specs.Chunks.{joined, start_of}

pub get_left : {X : Type 0} (xs ys : List X) (k : ℕ) → k < length xs → slice_get (xs ++ ys) k ≡ slice_get xs k
get_left [] ys k h = absurd (omega arith)
get_left (x ∷ xs) ys zero h = refl
get_left (x ∷ xs) ys (suc k) h = get_left xs ys k (omega arith)

pub get_right : {X : Type 0} (xs ys : List X) (k i : ℕ) → i ≡ length xs + k → slice_get (xs ++ ys) i ≡ slice_get ys k
get_right [] ys k i e = let same : i ≡ k = omega (arith, e) in ap (slice_get ys) same
get_right (x ∷ xs) ys k zero e = absurd (omega (arith, e))
get_right (x ∷ xs) ys k (suc i) e = get_right xs ys k i (omega (arith, e))

-- the start of a later chunk, one chunk further
start_next : (x : List Element) (xs : List (List Element)) (i : ℕ) → start_of (x ∷ xs) (suc i) ≡ length x + start_of xs i
start_next x xs i = length-append x (joined (take i xs))

pub joined_get : (cs : List (List Element)) (i : ℕ) (c : List Element) (k : ℕ) → slice_get cs i ≡ Some c → k < length c → slice_get (joined cs) (start_of cs i + k) ≡ slice_get c k
joined_get [] i c k here h = absurd (none-some c here)
joined_get (x ∷ xs) zero c k here h =
    let same : x ≡ c = same_Some x c here in
    let within : k < length x = subst (λ z. k < length z) (sym same) h in
    let at : 0 + k ≡ k = omega arith in
    ap (slice_get (x ++ joined xs)) at ∙ get_left x (joined xs) k within ∙ ap (λ z. slice_get z k) same
joined_get (x ∷ xs) (suc i) c k here h =
    let next = start_next x xs i in
    let at : start_of (x ∷ xs) (suc i) + k ≡ length x + (start_of xs i + k) = omega (arith, next) in
    get_right x (joined xs) (start_of xs i + k) (start_of (x ∷ xs) (suc i) + k) at ∙ joined_get xs i c k here h

-- which chunk has the element at a place
pub joined_found : (cs : List (List Element)) (p : ℕ) (e : Element) → slice_get (joined cs) p ≡ Some e → (i : ℕ) × ((c : List Element) × ((k : ℕ) × (slice_get cs i ≡ Some c) × (slice_get c k ≡ Some e) × (p ≡ start_of cs i + k)))
joined_found [] p e g = absurd (none-some e g)
joined_found (x ∷ xs) p e g =
    ⊎_elim
    (λ (low : p < length x). (zero, (x, (p, refl, sym (get_left x (joined xs) p low) ∙ g, omega arith))))
    (λ (high : length x ≤ p).
    let there : p ≡ length x + (p - length x) = omega arith in
    let r = joined_found xs (p - length x) e (sym (get_right x (joined xs) (p - length x) p there) ∙ g) in
    let next = start_next x xs r.0 in
    let at : p - length x ≡ start_of xs r.0 + r.1.1.0 = r.1.1.3 in
    (suc r.0, (r.1.0, (r.1.1.0, r.1.1.1, r.1.1.2, omega (arith, next, at, there)))))
    (cases_lt p (length x))

pub joined_insert : (cs : List (List Element)) (i : ℕ) (c d : List Element) (k : ℕ) (e : Element) → slice_get cs i ≡ Some c → k ≤ length c → d ≡ insert c k e → joined (set cs i d) ≡ insert (joined cs) (start_of cs i + k) e
joined_insert [] i c d k e here h is = absurd (none-some c here)
joined_insert (x ∷ xs) zero c d k e here h is =
    let same : x ≡ c = same_Some x c here in
    let within : k ≤ length x = subst (λ z. k ≤ length z) (sym same) h in
    let at : k ≡ 0 + k = omega arith in
    ap (λ z. z ++ joined xs) (is ∙ ap (λ z. insert z k e) (sym same)) ∙ sym (insert-append_left x (joined xs) k e within) ∙ ap (λ n. insert (x ++ joined xs) n e) at
joined_insert (x ∷ xs) (suc i) c d k e here h is =
    let next = start_next x xs i in
    let far : length x ≤ start_of (x ∷ xs) (suc i) + k = omega (arith, next) in
    let at : start_of xs i + k ≡ (start_of (x ∷ xs) (suc i) + k) - length x = omega (arith, next) in
    ap (λ z. x ++ z) (joined_insert xs i c d k e here h is ∙ ap (λ n. insert (joined xs) n e) at)
    ∙ sym (insert-append_right x (joined xs) (length x) (start_of (x ∷ xs) (suc i) + k) e refl far)

pub joined_set : (cs : List (List Element)) (i : ℕ) (c d : List Element) (k : ℕ) (e : Element) → slice_get cs i ≡ Some c → k < length c → d ≡ set c k e → joined (set cs i d) ≡ set (joined cs) (start_of cs i + k) e
joined_set [] i c d k e here h is = absurd (none-some c here)
joined_set (x ∷ xs) zero c d k e here h is =
    let same : x ≡ c = same_Some x c here in
    let within : k < length x = subst (λ z. k < length z) (sym same) h in
    let at : k ≡ 0 + k = omega arith in
    ap (λ z. z ++ joined xs) (is ∙ ap (λ z. set z k e) (sym same)) ∙ sym (set-append_left x (joined xs) k e within) ∙ ap (λ n. set (x ++ joined xs) n e) at
joined_set (x ∷ xs) (suc i) c d k e here h is =
    let next = start_next x xs i in
    let far : length x ≤ start_of (x ∷ xs) (suc i) + k = omega (arith, next) in
    let at : start_of xs i + k ≡ (start_of (x ∷ xs) (suc i) + k) - length x = omega (arith, next) in
    ap (λ z. x ++ z) (joined_set xs i c d k e here h is ∙ ap (λ n. set (joined xs) n e) at)
    ∙ sym (set-append_right x (joined xs) (length x) (start_of (x ∷ xs) (suc i) + k) e refl far)

-- ---- a chunk split in two
pub joined_split : (cs : List (List Element)) (i : ℕ) (c a b : List Element) → slice_get cs i ≡ Some c → c ≡ a ++ b → joined (insert (set cs i a) (suc i) b) ≡ joined cs
joined_split [] i c a b here is = absurd (none-some c here)
joined_split (x ∷ xs) zero c a b here is =
    sym (append_assoc a b (joined xs)) ∙ ap (λ z. z ++ joined xs) (sym is ∙ sym (same_Some x c here))
joined_split (x ∷ xs) (suc i) c a b here is = ap (λ z. x ++ z) (joined_split xs i c a b here is)

pub split_left : (cs : List (List Element)) (i : ℕ) (c a b : List Element) → slice_get cs i ≡ Some c → slice_get (insert (set cs i a) (suc i) b) i ≡ Some a
split_left [] i c a b here = absurd (none-some c here)
split_left (x ∷ xs) zero c a b here = refl
split_left (x ∷ xs) (suc i) c a b here = split_left xs i c a b here

pub split_right : (cs : List (List Element)) (i : ℕ) (c a b : List Element) → slice_get cs i ≡ Some c → slice_get (insert (set cs i a) (suc i) b) (suc i) ≡ Some b
split_right [] i c a b here = absurd (none-some c here)
split_right (x ∷ xs) zero c a b here = refl
split_right (x ∷ xs) (suc i) c a b here = split_right xs i c a b here

pub split_start : (cs : List (List Element)) (i : ℕ) (c a b : List Element) → slice_get cs i ≡ Some c → start_of (insert (set cs i a) (suc i) b) i ≡ start_of cs i
split_start [] i c a b here = absurd (none-some c here)
split_start (x ∷ xs) zero c a b here = refl
split_start (x ∷ xs) (suc i) c a b here =
    start_next x (insert (set xs i a) (suc i) b) i ∙ ap (λ n. length x + n) (split_start xs i c a b here) ∙ sym (start_next x xs i)

pub split_start_right : (cs : List (List Element)) (i : ℕ) (c a b : List Element) → slice_get cs i ≡ Some c → start_of (insert (set cs i a) (suc i) b) (suc i) ≡ start_of cs i + length a
split_start_right [] i c a b here = absurd (none-some c here)
split_start_right (x ∷ xs) zero c a b here = let one = length-append a [] in omega (arith, one)
split_start_right (x ∷ xs) (suc i) c a b here =
    let next = start_next x (insert (set xs i a) (suc i) b) (suc i) in
    let old = start_next x xs i in
    let rest = split_start_right xs i c a b here in
    omega (arith, next, old, rest)

-- ---- starts
-- the chunk after this one starts where this one ends
pub start_after_chunk : (cs : List (List Element)) (i : ℕ) (c : List Element) → slice_get cs i ≡ Some c → start_of cs (i + 1) ≡ start_of cs i + length c
start_after_chunk [] i c here = absurd (none-some c here)
start_after_chunk (x ∷ xs) zero c here =
    let same = ap length (same_Some x c here) in
    let whole = length-append x [] in
    omega (arith, same, whole)
start_after_chunk (x ∷ xs) (suc i) c here =
    let next = start_next x xs i in
    let one : suc i + 1 ≡ suc (i + 1) = omega arith in
    let further = ap (start_of (x ∷ xs)) one ∙ start_next x xs (i + 1) in
    let rest = start_after_chunk xs i c here in
    omega (arith, next, further, rest)

pub start_within : (cs : List (List Element)) (i : ℕ) → start_of cs i ≤ length (joined cs)
start_within [] zero = omega arith
start_within [] (suc i) = omega arith
start_within (x ∷ xs) zero = omega arith
start_within (x ∷ xs) (suc i) =
    let next = start_next x xs i in
    let whole = length-append x (joined xs) in
    let rest = start_within xs i in
    omega (arith, next, whole, rest)

pub start_end : (cs : List (List Element)) (i : ℕ) → length cs ≤ i → start_of cs i ≡ length (joined cs)
start_end [] zero h = refl
start_end [] (suc i) h = refl
start_end (x ∷ xs) zero h = absurd (omega arith)
start_end (x ∷ xs) (suc i) h =
    let next = start_next x xs i in
    let whole = length-append x (joined xs) in
    let rest = start_end xs i (omega arith) in
    omega (arith, next, whole, rest)

-- ---- the shape
pub joined_enough : (cs : List (List Element)) (m : ℕ) → ((i : ℕ) (c : List Element) → slice_get cs i ≡ Some c → (0 < length c) × (length c ≤ m)) → length (joined cs) ≤ length cs * m
joined_enough [] m each = omega arith
joined_enough (x ∷ xs) m each =
    let one : length x ≤ m = (each zero x refl).1 in
    let rest : length (joined xs) ≤ length xs * m = joined_enough xs m (λ i c g. each (suc i) c g) in
    let whole = length-append x (joined xs) in
    let product : length (x ∷ xs) * m ≡ m + length xs * m = grind arith in
    omega (arith, one, rest, whole, product)

pub joined_few : (cs : List (List Element)) (m : ℕ) → ((i : ℕ) (c : List Element) → slice_get cs i ≡ Some c → (0 < length c) × (length c ≤ m)) → length cs ≤ length (joined cs)
joined_few [] m each = omega arith
joined_few (x ∷ xs) m each =
    let one : 0 < length x = (each zero x refl).0 in
    let rest = joined_few xs m (λ i c g. each (suc i) c g) in
    let whole = length-append x (joined xs) in
    omega (arith, one, rest, whole)

pub shape_none : (cs : List (List Element)) (m : ℕ) → length cs ≡ 0 → (m ≡ 0) ⊎ ((i : ℕ) × ((c : List Element) × (slice_get cs i ≡ Some c) × (length c ≡ m))) → m ≡ 0
shape_none cs m none (inl e) = e
shape_none cs m none (inr (i, (c, g, is))) = absurd (let low = slice_get_within cs i c g in omega (arith, low, none))

-- a place within a chunk, among all elements
pub element_in : (cs : List (List Element)) (i start place : ℕ) (c : List Element) (e : Element) → slice_get cs i ≡ Some c → start ≡ start_of cs i → start ≤ place
    → slice_get c (place - start) ≡ Some e → Some e ≡ slice_get (joined cs) place
element_in cs i start place c e here is reached at =
    let within : place - start < length c = slice_get_within c (place - start) e at in
    let same : start_of cs i + (place - start) ≡ place = omega (arith, is, reached) in
    sym (ap (slice_get (joined cs)) (sym same) ∙ joined_get cs i c (place - start) here within ∙ at)
