-- Where bytes are split.
use Rattle.std.proofs.Common.{◌≡◌, ℕ, ◌+◌, ◌-◌, ◌≤◌, ◌<◌, Bool, eqb, List, length, take, drop, Some, None, refl, ap, arith, inl, inr, length-drop}
use Rattle.std.specs.Prelude.{position}
use Rattle.std.specs.List.{position_or_len}
use Rattle.std.proofs.lemmas.Bool.{cases_lt, lt-ltb, le-ltb}
use Rattle.std.proofs.lemmas.List.{take_all}
use Rattle.std.proofs.lemmas.List.Quantifiers.{position-Some}
use Rattle.change_ops.specs.Words.{split}
use Rattle.change_ops.proofs.Splitting.{split_here}

-- where none passes
nowhere : (p : ℕ → Bool) (xs : List ℕ) → position p xs ≡ None → length xs ≤ position_or_len p xs
nowhere p xs e = elim (cases_lt (position_or_len p xs) (length xs)) [
  | inl lt ↦ absurd (let f = rw (lt-ltb _ _ lt) at e in cc)
  | inr le ↦ le
]

split_at : (mark : ℕ) (bytes rest : List ℕ) (i : ℕ) → position (λ b. eqb b mark) bytes ≡ Some i → rest ≡ drop (i + 1) bytes → Some (take i bytes, rest) ≡ split mark bytes
split_at mark bytes rest i e r = let h = position-Some (λ b. eqb b mark) bytes i 0 e in rw (split_here mark bytes i h.0 h.2 h.1, r) refl

-- as a slice lends it
pub split_there : (mark : ℕ) (bytes : List ℕ) (i : ℕ) → position (λ b. eqb b mark) bytes ≡ Some i
    → Some (take i bytes, take (length bytes - (i + 1)) (drop (i + 1) bytes)) ≡ split mark bytes
split_there mark bytes i e =
    split_at mark bytes (take (length bytes - (i + 1)) (drop (i + 1) bytes)) i e (take_all (length bytes - (i + 1)) (drop (i + 1) bytes) (omega (arith, length-drop (i + 1) bytes)))

pub split_nowhere : (mark : ℕ) (bytes : List ℕ) → position (λ b. eqb b mark) bytes ≡ None → split mark bytes ≡ None
unfolding split
split_nowhere mark bytes e = rw (le-ltb _ _ (nowhere (λ b. eqb b mark) bytes e)) refl

pub shorter_there : (bytes : List ℕ) (i : ℕ) → i < length bytes → length (take (length bytes - (i + 1)) (drop (i + 1) bytes)) < length bytes
shorter_there bytes i lt =
    let same = ap length (take_all (length bytes - (i + 1)) (drop (i + 1) bytes) (omega (arith, length-drop (i + 1) bytes))) in
    omega (arith, lt, same, length-drop (i + 1) bytes)
