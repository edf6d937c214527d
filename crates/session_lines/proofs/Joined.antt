-- What is appended piece by piece.
use Rattle.std.proofs.Common.{◌≡◌, ℕ, List, ◌++◌, append_assoc, ap, sym, ◌∙◌}

-- a word and a number more
pub joined : (a b c x word number : List ℕ) → b ≡ a ++ x → c ≡ b ++ (word ++ number) → c ≡ a ++ ((x ++ word) ++ number)
joined a b c x word number p q =
    q ∙ ap (λ (l : List ℕ). l ++ (word ++ number)) p ∙ append_assoc a x (word ++ number)
    ∙ ap (λ (l : List ℕ). a ++ l) (sym (append_assoc x word number))

-- a text more
pub step : (a b c x y : List ℕ) → b ≡ a ++ x → c ≡ b ++ y → c ≡ a ++ (x ++ y)
step a b c x y p q = q ∙ ap (λ (l : List ℕ). l ++ y) p ∙ append_assoc a x y

-- five texts, of which the last two come together, and what ends the line
pub five : (a b c d e f t u s l m n : List ℕ) → b ≡ a ++ t → c ≡ b ++ u → d ≡ c ++ s → e ≡ d ++ (l ++ m) → f ≡ e ++ n
    → f ≡ a ++ ((t ++ u ++ s ++ l ++ m) ++ n)
five a b c d e f t u s l m n first second third fourth fifth =
    let two = step a b c t u first second in
    let three = step a c d (t ++ u) s two third in
    let four = step a d e (t ++ u ++ s) (l ++ m) three fourth in
    let all : e ≡ a ++ (t ++ u ++ s ++ l ++ m) = four ∙ ap (λ (z : List ℕ). a ++ z) (sym (append_assoc (t ++ u ++ s) l m)) in
    step a e f (t ++ u ++ s ++ l ++ m) n all fifth
