-- The marks and the slots of the stack, as the rules take them.
use Rattle.std.proofs.Common.{◌≡◌, ℕ, zero, suc, ◌+◌, ◌<◌, ◌≤◌, ◌&&◌, Bool, true, false, List, length, get_or, refl, sym, ap, ◌∙◌, subst, ⊎_elim, arith, add-one}
use Rattle.std.proofs.lemmas.Bool.{cases_lt}
use Rattle.std.proofs.lemmas.List.{ext_get_or}
use Rattle.abstract_state.specs.Stacks.{Slots, marks_by, is_set, are_set}

eighth : (f : ℕ → Bool) (j : ℕ) → j < 8 → get_or (marks_by f) j false ≡ f j
eighth f zero h = refl
eighth f (suc zero) h = refl
eighth f (suc (suc zero)) h = refl
eighth f (suc (suc (suc zero))) h = refl
eighth f (suc (suc (suc (suc zero)))) h = refl
eighth f (suc (suc (suc (suc (suc zero))))) h = refl
eighth f (suc (suc (suc (suc (suc (suc zero)))))) h = refl
eighth f (suc (suc (suc (suc (suc (suc (suc zero))))))) h = refl
eighth f (suc (suc (suc (suc (suc (suc (suc (suc j)))))))) h = absurd (omega arith)

-- eight marks are those by what each is
pub marks_are : (marks : List Bool) (f : ℕ → Bool) → length marks ≡ 8 → ((j : ℕ) → j < 8 → get_or marks j false ≡ f j) → marks ≡ marks_by f
marks_are marks f long each = ext_get_or false marks (marks_by f) long (λ j h. let low : j < 8 = omega arith in each j low ∙ sym (eighth f j low))

pub are_set_more : (slots : Slots) (p j : ℕ) → are_set slots p (j + 1) ≡ (are_set slots p j && is_set slots (p + j))
unfolding are_set
are_set_more slots p j = ap (are_set slots p) (add-one j)

and_left : (a b : Bool) → a ≡ false → (a && b) ≡ false
and_left true b e = absurd (cc)
and_left false b e = refl

and_right : (a b : Bool) → b ≡ false → (a && b) ≡ false
and_right true b e = e
and_right false b e = refl

-- one byte that isn't set is enough
pub one_unset : (slots : Slots) (p j count : ℕ) → j < count → is_set slots (p + j) ≡ false → are_set slots p count ≡ false
unfolding are_set
one_unset slots p j zero h e = absurd (omega arith)
one_unset slots p j (suc n) h e =
    ⊎_elim
    (λ (less : j < n). and_left _ _ (one_unset slots p j n less e))
    (λ (most : n ≤ j). let same : j ≡ n = omega arith in and_right _ _ (subst (λ (k : ℕ). is_set slots (p + k) ≡ false) same e))
    (cases_lt j n)

pub both_true : (a b c : Bool) → a ≡ true → b ≡ true → c ≡ (a && b) → c ≡ true
both_true a b c e f g = cc
