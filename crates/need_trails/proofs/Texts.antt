-- Texts to which others are appended, one after the other.
use Rattle.std.proofs.Common.{◌≡◌, ℕ, List, [], ◌∷◌, ◌++◌, codes, ap, sym, ◌∙◌, append_assoc}

-- a slot's number, and what is wanted before it
pub numbered : (text number wanted : List ℕ) → (text ++ (codes "before slot " ++ number ++ codes ": ")) ++ (wanted ++ 10 ∷ []) ≡ text ++ (codes "before slot " ++ number ++ codes ": " ++ wanted ++ 10 ∷ [])
numbered text number wanted =
    let first = codes "before slot " ++ number ++ codes ": " in
    append_assoc text first (wanted ++ 10 ∷ []) ∙ ap (λ (line : List ℕ). text ++ line) (sym (append_assoc first wanted (10 ∷ [])))

-- what is wanted, which copy is known, whence it comes, and where it ends
pub wanted_first : (x0 x1 x2 x3 x4 first wanted copy since end : List ℕ) → x1 ≡ x0 ++ first → x2 ≡ x1 ++ (wanted ++ 10 ∷ []) → x3 ≡ x2 ++ copy → x4 ≡ x3 ++ since
    → x4 ++ end ≡ x0 ++ (first ++ wanted ++ 10 ∷ [] ++ copy ++ (since ++ end))
wanted_first x0 x1 x2 x3 x4 first wanted copy since end e1 e2 e3 e4 = rw (e4, e3, e2, e1) (simp append_assoc)
