-- Elements of a list of which one is written.
use Rattle.std.proofs.Common.{◌≡◌, ℕ, ◌+◌, ◌<◌, ◌≤◌, List, length, get_or, set, sym, ◌∙◌, ap, subst, ⊎_elim, arith}
use Rattle.std.proofs.lemmas.Bool.{cases_lt}
use Rattle.std.proofs.lemmas.Grind.{common_steps}
use Rattle.abstract_state.proofs.Registers.{any_default}

same_read : {X : Type 0} (xs : List X) (i k : ℕ) (v d : X) → i < length xs → k ≡ i → get_or (set xs i v) k d ≡ v
same_read xs i k v d h e = grind (arith, common_steps)

other_read : {X : Type 0} (xs : List X) (i k : ℕ) (v d : X) → k < i → get_or (set xs i v) k d ≡ get_or xs k d
other_read xs i k v d h = grind (arith, common_steps)

-- what holds of all elements below i and of the one that is written, holds of all up to it
pub written_at : {X : Type 0} (xs : List X) (i k : ℕ) (v d : X) (P : X → Type 0) → i < length xs → k < i + 1 → (k ≡ i → P v) → (k < i → P (get_or xs k d)) → P (get_or (set xs i v) k d)
written_at xs i k v d P within h here below =
    ⊎_elim
    (λ (less : k < i). subst P (sym (other_read xs i k v d less)) (below less))
    (λ (most : i ≤ k). let same : k ≡ i = omega arith in subst P (sym (same_read xs i k v d within same)) (here same))
    (cases_lt k i)

pub read_again : {X : Type 0} (xs : List X) (i k : ℕ) (d e : X) → i < length xs → k ≡ i → get_or xs k d ≡ get_or xs i e
read_again xs i k d e within same = ap (λ (j : ℕ). get_or xs j d) same ∙ any_default xs i d e within

-- what stands behind the one that is written stays
pub beyond : {X : Type 0} (xs : List X) (i k : ℕ) (v d : X) → i + 1 ≤ k → get_or (set xs i v) k d ≡ get_or xs k d
beyond xs i k v d h = grind (arith, common_steps)
