-- Where a line is split at its first space.
use Rattle.std.proofs.Common.{◌≡◌, ℕ, ◌+◌, ◌-◌, ◌≤◌, Bool, eqb, List, length, take, drop, Some, None, refl, sym, ap, arith, inl, inr, length-drop}
use Rattle.std.specs.Prelude.{position}
use Rattle.std.specs.List.{position_or_len, before_first}
use Rattle.std.proofs.lemmas.Bool.{cases_lt, lt-ltb, le-ltb}
use Rattle.std.proofs.lemmas.List.{take_all}
use Rattle.std.proofs.lemmas.List.Quantifiers.{position-Some}
use Rattle.std.proofs.lemmas.List.Sums.{position_or_len_is}
use Rattle.change_ops.specs.Words.{split}
use Rattle.change_ops.proofs.Splitting.{split_here}

pub at_first : (p : ℕ → Bool) (xs : List ℕ) (i : ℕ) → position p xs ≡ Some i → position_or_len p xs ≡ i
at_first p xs i e = let h = position-Some p xs i 0 e in position_or_len_is p xs i 0 (omega (arith, h.0)) h.2 (λ _. h.1)

-- where none passes
nowhere : (p : ℕ → Bool) (xs : List ℕ) → position p xs ≡ None → length xs ≤ position_or_len p xs
nowhere p xs e = elim (cases_lt (position_or_len p xs) (length xs)) [
  | inl lt ↦ absurd (let f = rw (lt-ltb _ _ lt) at e in cc)
  | inr le ↦ le
]

pub split_at : (line rest : List ℕ) (i : ℕ) → position (λ b. eqb b 32) line ≡ Some i → rest ≡ drop (i + 1) line → Some (take i line, rest) ≡ split 32 line
split_at line rest i e r = let h = position-Some (λ b. eqb b 32) line i 0 e in rw (split_here 32 line i h.0 h.2 h.1, r) refl

-- as a slice lends it
pub split_there : (line : List ℕ) (i : ℕ) → position (λ b. eqb b 32) line ≡ Some i → Some (take i line, take (length line - (i + 1)) (drop (i + 1) line)) ≡ split 32 line
split_there line i e = split_at line (take (length line - (i + 1)) (drop (i + 1) line)) i e (take_all (length line - (i + 1)) (drop (i + 1) line) (omega (arith, length-drop (i + 1) line)))

pub split_nowhere : (line : List ℕ) → position (λ b. eqb b 32) line ≡ None → split 32 line ≡ None
unfolding split
split_nowhere line e = rw (le-ltb _ _ (nowhere (λ b. eqb b 32) line e)) refl

pub before_at : (line : List ℕ) (i : ℕ) → position (λ b. eqb b 32) line ≡ Some i → take i line ≡ before_first (λ b. eqb b 32) line
before_at line i e = ap (λ n. take n line) (sym (at_first (λ b. eqb b 32) line i e))

pub before_nowhere : (line : List ℕ) → position (λ b. eqb b 32) line ≡ None → before_first (λ b. eqb b 32) line ≡ line
before_nowhere line e = take_all (position_or_len (λ b. eqb b 32) line) line (nowhere (λ b. eqb b 32) line e)
