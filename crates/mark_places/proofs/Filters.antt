-- What a filter keeps of a list.
use Rattle.std.proofs.Common.{◌≡◌, List, [], ◌∷◌, Bool, true, false, cond, sym, ap, ◌∙◌, subst, ⊎_elim, arith}
use Rattle.std.specs.List.{filter, Contains}
use Rattle.std.proofs.lemmas.List.Elements.{All-contains, All-contains_itself, All-filter, filter_passes, Contains-append_cases, Contains-append_left, Contains-append_right, Contains-push_cases}

-- what a filter keeps was there, and passes
pub kept_was : {X : Type 0} (p : X → Bool) (xs : List X) (x : X) → Contains (filter p xs) x → Contains xs x
kept_was p xs x h = All-contains (Contains xs) (filter p xs) x (All-filter p (Contains xs) xs (All-contains_itself xs)) h

pub kept_passes : {X : Type 0} (p : X → Bool) (xs : List X) (x : X) → Contains (filter p xs) x → p x ≡ true
kept_passes p xs x h = All-contains (λ y. p y ≡ true) (filter p xs) x (filter_passes p xs) h

-- what is there and passes is kept
pub is_kept : {X : Type 0} (p : X → Bool) (xs : List X) (x : X) → p x ≡ true → Contains xs x → Contains (filter p xs) x
is_kept p [] x t h = h
is_kept p (y ∷ ys) x t h =
    ⊎_elim (λ (a : Contains (y ∷ []) x).
    let same : y ≡ x = ⊎_elim (λ (n : Contains [] x). absurd (omega (arith, n.1))) (λ (e : y ≡ x). e) (Contains-push_cases [] y x a) in
    let passes : p y ≡ true = ap p same ∙ t in
    subst (λ (b : Bool). Contains (cond b (y ∷ filter p ys) (filter p ys)) x) (sym passes) (Contains-append_left (y ∷ []) (filter p ys) x a))
    (λ (b : Contains ys x).
    let rest = is_kept p ys x t b in
    elim (p y) as (λ v. Contains (cond v (y ∷ filter p ys) (filter p ys)) x) [
      | true ↦ Contains-append_right (y ∷ []) (filter p ys) x rest
      | false ↦ rest
    ])
    (Contains-append_cases (y ∷ []) ys x h)
