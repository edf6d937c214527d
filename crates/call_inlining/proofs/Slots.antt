-- Lists that have the same at each index are the same.
use Rattle.std.proofs.Common.{◌≡◌, ℕ, zero, suc, ◌<◌, List, [], ◌∷◌, length, Some, refl, arith, lit<}
use Rattle.std.specs.Prelude.{slice_get}

pub same_slots : {X : Type 0} (xs ys : List X) → length xs ≡ length ys → ((k : ℕ) → k < length xs → slice_get xs k ≡ slice_get ys k) → xs ≡ ys
same_slots [] [] long each = refl
same_slots [] (y ∷ ys) long each = absurd (omega arith)
same_slots (x ∷ xs) [] long each = absurd (omega arith)
same_slots (x ∷ xs) (y ∷ ys) long each =
    let first = each 0 (omega arith) in
    let head : x ≡ y = cc in
    let tail : xs ≡ ys = same_slots xs ys (omega arith) (λ k below. each (suc k) (omega arith)) in
    cc
