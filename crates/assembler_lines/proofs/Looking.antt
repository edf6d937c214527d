-- A word is looked for only among the forms whose mnemonics share its second byte.
use Rattle.std.proofs.Common.{◌≡◌, ℕ, Bool, true, false, eq-eqb, List, [], ◌∷◌, refl, ap}
use Rattle.std.specs.Prelude.{◌==◌, slice_index}
use Rattle.std.specs.List.{find, filter}
use Rattle.std.specs.Str.{bytes_eq}
use Rattle.std.proofs.lemmas.Slice.Eq.{bytes_eq-Decides}
use Rattle.assembler_lines.specs.declared.form.Form.{Form}
use Rattle.assembler_lines.specs.Mnemonics.{name_of, form_named, forms_on, all_forms}

found_within : {X : Type 0} (p q : X → Bool) → ((x : X) → p x ≡ true → q x ≡ true) → (xs : List X) → find p (filter q xs) ≡ find p xs
found_within p q h [] = refl
found_within p q h (x ∷ xs) = go (p x) (q x) refl refl (found_within p q h xs) where
  go : (b c : Bool) → p x ≡ b → q x ≡ c → find p (filter q xs) ≡ find p xs → find p (filter q (x ∷ xs)) ≡ find p (x ∷ xs)
  go true true e f more = simp (e, f) refl
  go true false e f more = absurd (let g = h x e in cc)
  go false true e f more = simp (e, f) more
  go false false e f more = simp (e, f) more

second_same : (word : List ℕ) (form : Form) → bytes_eq (name_of form) word ≡ true → (slice_index (name_of form) 1 == slice_index word 1) ≡ true
second_same word form same = eq-eqb _ _ (ap (λ (w : List ℕ). slice_index w 1) ((bytes_eq-Decides (name_of form) word).0 same))

pub found_there : (word : List ℕ) → find (λ form. bytes_eq (name_of form) word) (forms_on (slice_index word 1)) ≡ form_named word
unfolding form_named forms_on
found_there word = found_within (λ form. bytes_eq (name_of form) word) (λ form. slice_index (name_of form) 1 == slice_index word 1) (second_same word) all_forms
