-- Characters that are Unicode scalar values, in two parts.
use Rattle.std.proofs.Common.{◌≡◌, ℕ, ◌&&◌, true, List, [], ◌∷◌, ◌++◌, refl, ap, ◌∙◌}
use Rattle.std.proofs.Math.Utf8.{scalars, scalar}
use Rattle.std.proofs.lemmas.Bool.{and_parts}

pub scalars_left : (xs ys : List ℕ) → scalars (xs ++ ys) ≡ true → scalars xs ≡ true
scalars_left [] ys e = refl
scalars_left (x ∷ xs) ys e =
    let r = and_parts (scalar x) (scalars (xs ++ ys)) e in
    ap (λ b. b && scalars xs) r.0 ∙ scalars_left xs ys r.1

pub scalars_right : (xs ys : List ℕ) → scalars (xs ++ ys) ≡ true → scalars ys ≡ true
scalars_right [] ys e = e
scalars_right (x ∷ xs) ys e = scalars_right xs ys (and_parts (scalar x) (scalars (xs ++ ys)) e).1
