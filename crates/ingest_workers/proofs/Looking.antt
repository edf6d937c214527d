-- Some of the versions from one on.
use Rattle.std.proofs.Common.{◌≡◌, ℕ, zero, suc, ◌+◌, ◌≤◌, Some, None, List, [], ◌∷◌, ◌++◌, length, take, drop, slice_get, sym, ap, ◌∙◌, arith, inl, inr, zero-le}
use Rattle.std.proofs.lemmas.List.{take_all}
use Rattle.std.proofs.lemmas.Option.{slice_get_past, slice_get_cases, none-some}

get_drop : {A : Type 0} (n k : ℕ) (xs : List A) → slice_get (drop n xs) k ≡ slice_get xs (n + k)
get_drop zero k xs = ap (slice_get xs) (let e : k ≡ 0 + k = omega arith in e)
get_drop (suc n) k [] = slice_get_past [] k zero-le ∙ sym (slice_get_past [] (suc n + k) zero-le)
get_drop (suc n) k (x ∷ xs) = get_drop n k xs ∙ ap (slice_get (x ∷ xs)) (let e : suc (n + k) ≡ suc n + k = omega arith in e)

take_here : {A : Type 0} (k : ℕ) (xs : List A) (x : A) → slice_get xs k ≡ Some x → take k xs ++ x ∷ [] ≡ take (k + 1) xs
take_here k [] x e = absurd (none-some x (sym (slice_get_past [] k zero-le) ∙ e))
take_here zero (y ∷ xs) x e = let same : y ≡ x = cc e in ap (λ z. z ∷ []) (sym same)
take_here (suc k) (y ∷ xs) x e =
    let next : suc (k + 1) ≡ suc k + 1 = omega arith in
    ap (λ l. y ∷ l) (take_here k xs x e) ∙ ap (λ n. take n (y ∷ xs)) next

-- one more is there
pub take_next : {A : Type 0} (n k : ℕ) (xs : List A) (x : A) → slice_get xs (n + k) ≡ Some x → take k (drop n xs) ++ x ∷ [] ≡ take (k + 1) (drop n xs)
take_next n k xs x e = take_here k (drop n xs) x (get_drop n k xs ∙ e)

past_end : {A : Type 0} (k : ℕ) (xs : List A) → slice_get xs k ≡ None → length xs ≤ k
past_end k xs none = elim (slice_get_cases xs k).1 [ inl there ↦ absurd (none-some there.0 (sym none ∙ there.2)) | inr past ↦ past.0 ]

-- no more are there
pub take_last : {A : Type 0} (n k m : ℕ) (xs : List A) → slice_get xs (n + k) ≡ None → k ≤ m → take k (drop n xs) ≡ take m (drop n xs)
take_last n k m xs e le =
    let past = past_end k (drop n xs) (get_drop n k xs ∙ e) in
    take_all k (drop n xs) past ∙ sym (take_all m (drop n xs) (omega (arith, past, le)))
