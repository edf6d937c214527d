-- The lines of a text, read from its front.
use Rattle.std.proofs.Common.{◌≡◌, ℕ, suc, true, false, Option, ◌≤◌, ◌<◌, ◌+◌, Bool, eqb, List, [], ◌∷◌, length, get_or, take, drop, Some, None, inl, inr, refl, sym, ap, ◌∙◌, arith}
use Rattle.std.specs.Prelude.{position}
use Rattle.std.specs.Borrow.{Bor}
use Rattle.std.specs.List.{All, position_or_len}
use Rattle.std.specs.Option.{is_some}
use Rattle.std.proofs.lemmas.Bool.{cases_lt, lt-ltb}
use Rattle.std.proofs.lemmas.List.{drop_all, drop_more}
use Rattle.std.proofs.lemmas.List.Elements.{All-nil, All-cons}
use Rattle.std.proofs.lemmas.List.Quantifiers.{position-Some}
use Rattle.std.proofs.lemmas.List.Splits.{length-slice_split, slice_split_first, slice_split_none}
use Rattle.std.proofs.lemmas.List.Sums.{count_by-le-length, fails_before_first, position_or_len_is}
use Rattle.assembler_lines.specs.Slots.{lines_of}
use Rattle.assembler.specs.Lines.{lines_left}

abbrev first_of : List (List ℕ) → List ℕ
first_of [] = []
first_of (line ∷ lines) = line

abbrev others_of : List (List ℕ) → List (List ℕ)
others_of [] = []
others_of (line ∷ lines) = lines

-- where a line is left, the count of those before it is the index of the first that is left
pub left_within : (lines : List (List ℕ)) (count : ℕ) (line : List ℕ) (others : List (List ℕ)) → line ∷ others ≡ drop count lines → count < length lines
left_within lines count line others left = elim (cases_lt count (length lines)) [
  | inl lt ↦ lt
  | inr le ↦ absurd (let none = left ∙ drop_all count lines le in cc)
]

pub left_here : (lines : List (List ℕ)) (count : ℕ) (line : List ℕ) (others : List (List ℕ)) → line ∷ others ≡ drop count lines → get_or lines count [] ≡ line
left_here lines count line others left = sym (ap first_of (left ∙ drop_more lines count [] (left_within lines count line others left)))

pub left_more : (lines : List (List ℕ)) (count : ℕ) (line : List ℕ) (others : List (List ℕ)) → line ∷ others ≡ drop count lines → others ≡ drop (count + 1) lines
left_more lines count line others left = ap others_of (left ∙ drop_more lines count [] (left_within lines count line others left))

pub none_left : (lines : List (List ℕ)) (count : ℕ) → [] ≡ drop count lines → length lines ≤ count
none_left lines count left = elim (cases_lt count (length lines)) [
  | inl lt ↦ absurd (let some = left ∙ drop_more lines count [] lt in cc)
  | inr le ↦ le
]

-- ---- where a text is split
none_passes : (p : ℕ → Bool) (xs : List ℕ) → position p xs ≡ None → (k : ℕ) → k < length xs → p (get_or xs k 0) ≡ false
none_passes p xs e k lt = elim (cases_lt (position_or_len p xs) (length xs)) [
  | inl less ↦ absurd (let f = rw (lt-ltb _ _ less) at e in cc)
  | inr le ↦ fails_before_first p xs k 0 (omega arith)
]

none_pass : (p : ℕ → Bool) (xs : List ℕ) → ((k : ℕ) → k < length xs → p (get_or xs k 0) ≡ false) → All (λ x. p x ≡ false) xs
none_pass p [] h = All-nil (λ x. p x ≡ false)
none_pass p (x ∷ xs) h = All-cons (λ y. p y ≡ false) x xs (h 0 (omega arith)) (none_pass p xs (λ k lt. h (suc k) (omega arith)))

pub split_there : (text : List ℕ) (end : ℕ) → position (λ b. eqb b 10) text ≡ Some end → lines_of text ≡ take end text ∷ lines_of (drop (end + 1) text)
split_there text end e =
    let h = position-Some (λ b. eqb b 10) text end 0 e in
    let first = position_or_len_is (λ b. eqb b 10) text end 0 (omega (arith, h.0)) h.2 (λ _. h.1) in
    let whole = slice_split_first (λ b. eqb b 10) text 0 (omega (arith, h.0, first)) in
    whole ∙ rw first refl

pub split_nowhere : (text : List ℕ) → position (λ b. eqb b 10) text ≡ None → lines_of text ≡ text ∷ []
split_nowhere text e = slice_split_none (λ b. eqb b 10) text (none_pass (λ b. eqb b 10) text (none_passes (λ b. eqb b 10) text e))

-- a text has at most a line more than bytes
pub lines_few : (text : List ℕ) → length (lines_of text) ≤ length text + 1
lines_few text = omega (arith, length-slice_split (λ b. eqb b 10) text, count_by-le-length (λ b. eqb b 10) text)

-- ---- whether a text is left
pub rest_none : (rest : Option (Bor (List ℕ))) → is_some rest ≡ false → lines_left rest ≡ []
rest_none None none = refl
rest_none (Some text) none = cc none

pub rest_some : (rest : Option (Bor (List ℕ))) → is_some rest ≡ true → 0 < length (lines_left rest)
rest_some None some = cc some
rest_some (Some text) some = omega (arith, length-slice_split (λ b. eqb b 10) text.now)
