-- Numbers of two lists, compared one after another.
use Rattle.std.proofs.Common.{◌≡◌, ◌↔◌, ℕ, List, [], ◌∷◌, drop, sym, ap, ◌∙◌}

-- both have a number that is the same
pub matched : (ns ms xs ys : List ℕ) (n : ℕ) (W : Type 0) → ns ≡ n ∷ xs → ms ≡ n ∷ ys → (ns ≡ ms) ↔ W → (xs ≡ ys) ↔ W
matched ns ms xs ys n W a b whole = (λ rest. whole.0 (a ∙ ap (λ l. n ∷ l) rest ∙ sym b), λ w. ap (drop 1) (sym a ∙ whole.1 w ∙ b))

-- the second doesn't go on with the number of the first
pub differs : (ns ms xs : List ℕ) (n : ℕ) (W : Type 0) → ns ≡ n ∷ xs → ((rest : List ℕ) → ms ≡ n ∷ rest → ⊥) → (ns ≡ ms) ↔ W → W → ⊥
differs ns ms xs n W a not whole w = not xs (sym (whole.1 w) ∙ a)

-- the first has no number more
pub ends : (ns ms : List ℕ) (W : Type 0) → ns ≡ [] → (ns ≡ ms) ↔ W → (ms ≡ []) ↔ W
ends ns ms W a whole = (λ none. whole.0 (a ∙ sym none), λ w. sym (whole.1 w) ∙ a)
