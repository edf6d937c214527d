-- Lists of two and of three.
use Rattle.std.proofs.Common.{◌≡◌, List, [], ◌∷◌, length, slice_get, Some, arith}

pub two_items : {X : Type 0} (xs : List X) (a b : X) → Some a ≡ slice_get xs 0 → Some b ≡ slice_get xs 1 → length xs ≡ 2 → xs ≡ a ∷ b ∷ []
two_items [] a b first second count = absurd (omega (arith, count))
two_items (x ∷ []) a b first second count = absurd (omega (arith, count))
two_items (x ∷ y ∷ []) a b first second count = let one : x ≡ a = cc in let two : y ≡ b = cc in (λ i. one i ∷ two i ∷ [])
two_items (x ∷ y ∷ z ∷ zs) a b first second count = absurd (omega (arith, count))

pub three_items : {X : Type 0} (xs : List X) (a b c : X) → Some a ≡ slice_get xs 0 → Some b ≡ slice_get xs 1 → Some c ≡ slice_get xs 2 → length xs ≡ 3 → xs ≡ a ∷ b ∷ c ∷ []
three_items [] a b c first second third count = absurd (omega (arith, count))
three_items (x ∷ []) a b c first second third count = absurd (omega (arith, count))
three_items (x ∷ y ∷ []) a b c first second third count = absurd (omega (arith, count))
three_items (x ∷ y ∷ z ∷ []) a b c first second third count =
    let one : x ≡ a = cc in let two : y ≡ b = cc in let three : z ≡ c = cc in (λ i. one i ∷ two i ∷ three i ∷ [])
three_items (x ∷ y ∷ z ∷ w ∷ zs) a b c first second third count = absurd (omega (arith, count))
