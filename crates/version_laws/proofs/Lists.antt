-- Lists that are mapped, and lists one behind another.
use Rattle.std.proofs.Common.{◌≡◌, ℕ, zero, suc, ◌+◌, List, [], ◌∷◌, ◌++◌, Some, length, map, refl, ap, ◌∙◌, arith}
use Rattle.std.specs.List.{slice_get}
use Rattle.std.proofs.lemmas.Option.{same_Some, none-some}

pub map_from : {X Y : Type 0} (f : X → Y) (xs : List X) (j : ℕ) (y : Y) → slice_get (map f xs) j ≡ Some y → (x : X) × (slice_get xs j ≡ Some x) × (f x ≡ y)
map_from f [] j y g = absurd (none-some y g)
map_from f (x ∷ xs) zero y g = (x, refl, same_Some (f x) y g)
map_from f (x ∷ xs) (suc j) y g = map_from f xs j y g

pub map_at : {X Y : Type 0} (f : X → Y) (xs : List X) (j : ℕ) (x : X) → slice_get xs j ≡ Some x → slice_get (map f xs) j ≡ Some (f x)
map_at f [] j x g = absurd (none-some x g)
map_at f (y ∷ ys) zero x g = ap (λ z. Some (f z)) (same_Some y x g)
map_at f (y ∷ ys) (suc j) x g = map_at f ys j x g

pub get_ahead : {X : Type 0} (front rest : List X) (j : ℕ) (x : X) → slice_get front j ≡ Some x → slice_get (front ++ rest) j ≡ Some x
get_ahead [] rest j x g = absurd (none-some x g)
get_ahead (y ∷ front) rest zero x g = g
get_ahead (y ∷ front) rest (suc j) x g = get_ahead front rest j x g

pub get_behind : {X : Type 0} (front rest : List X) (j : ℕ) → slice_get (front ++ rest) (length front + j) ≡ slice_get rest j
get_behind [] rest j = let same : zero + j ≡ j = omega arith in ap (slice_get rest) same
get_behind (x ∷ front) rest j =
    let same : length (x ∷ front) + j ≡ suc (length front + j) = omega arith in
    ap (slice_get (x ∷ (front ++ rest))) same ∙ get_behind front rest j
