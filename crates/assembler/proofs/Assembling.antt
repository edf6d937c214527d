-- The bytes of lines, one line after the other.
use Rattle.std.proofs.Common.{◌≡◌, ℕ, zero, suc, ◌≤◌, ◌<◌, ◌+◌, ◌^◌, Bool, true, false, cond, eqb, List, [], ◌∷◌, ◌++◌, length, inl, inr, refl, sym, ap, subst, ◌∙◌, arith}
use Rattle.std.specs.Prelude.{IsOk, sum_by, flat_map}
use Rattle.std.specs.List.{range_with_len, slice_split, onto_first}
use Rattle.std.proofs.lemmas.Grind.{flat_map-append}
use Rattle.std.proofs.lemmas.List.{append-nil}
use Rattle.std.proofs.lemmas.Bool.{cases_lt}
use Rattle.std.proofs.lemmas.List.Sums.{sum_by-cons}
use Rattle.assembler_lines.specs.Slots.{insn_at, lines_of}
use Rattle.assembler.specs.Text.{bytes_of, bytes_before, AreRight, AreTextOf}

range_more : (a n : ℕ) → range_with_len a (suc n) ≡ range_with_len a n ++ (a + n) ∷ []
range_more a zero = let e : a ≡ a + 0 = omega arith in ap (λ (k : ℕ). k ∷ []) e
range_more a (suc n) =
    let e : (a + 1) + n ≡ a + suc n = omega arith in
    ap (λ (ks : List ℕ). a ∷ ks) (range_more (a + 1) n ∙ ap (λ (k : ℕ). range_with_len (a + 1) n ++ k ∷ []) e)

bytes_suc : (lines : List (List ℕ)) (k : ℕ) → bytes_before lines (suc k) ≡ bytes_before lines k ++ bytes_of (insn_at lines k)
unfolding bytes_before
bytes_suc lines k =
    let e : 0 + k ≡ k = omega arith in
    ap (flat_map (λ j. bytes_of (insn_at lines j))) (range_more 0 k)
    ∙ flat_map-append (λ j. bytes_of (insn_at lines j)) (range_with_len 0 k) ((0 + k) ∷ [])
    ∙ rw (e, append-nil) refl

-- one line more
pub bytes_more : (lines : List (List ℕ)) (k : ℕ) (old new : List ℕ) → old ≡ bytes_before lines k → new ≡ old ++ bytes_of (insn_at lines k) → new ≡ bytes_before lines (k + 1)
bytes_more lines k old new so_far more =
    let e : k + 1 ≡ suc k = omega arith in
    more ∙ ap (λ (bs : List ℕ). bs ++ bytes_of (insn_at lines k)) so_far ∙ sym (rw e (bytes_suc lines k))

pub right_none : (lines : List (List ℕ)) → AreRight lines 0
right_none lines k lt = absurd (omega arith)

-- one right line more
pub right_more : (lines : List (List ℕ)) (count : ℕ) → IsOk (insn_at lines count) → AreRight lines count → AreRight lines (count + 1)
right_more lines count is h k lt =
    elim (cases_lt k count) [
      | inl less ↦ h k less
      | inr le ↦ let same : k ≡ count = omega arith in rw same is
    ]

-- no line is left
pub text_whole : (lines : List (List ℕ)) (count : ℕ) (bytes : List ℕ) → length lines ≡ count → AreRight lines count → bytes ≡ bytes_before lines count → AreTextOf lines bytes
text_whole lines count bytes all right whole = record { right = subst (AreRight lines) (sym all) right; whole = whole ∙ ap (bytes_before lines) (sym all) }

onto_sum : (x : ℕ) (parts : List (List ℕ)) → sum_by length (onto_first x parts) ≤ suc (sum_by length parts)
onto_sum x [] = omega (arith, sum_by-cons length (x ∷ []) [])
onto_sum x (part ∷ parts) = omega (arith, sum_by-cons length (x ∷ part) parts, sum_by-cons length part parts)

split_sum : (p : ℕ → Bool) (xs : List ℕ) → sum_by length (slice_split p xs) ≤ length xs
split_sum p [] = omega (arith, sum_by-cons (length {A = ℕ}) [] [])
split_sum p (x ∷ xs) = go (p x) (split_sum p xs) where
  go : (b : Bool) → sum_by length (slice_split p xs) ≤ length xs → sum_by length (cond b ([] ∷ slice_split p xs) (onto_first x (slice_split p xs))) ≤ suc (length xs)
  go true le = omega (arith, sum_by-cons (length {A = ℕ}) [] (slice_split p xs))
  go false le = omega (arith, onto_sum x (slice_split p xs))

pub room_of : (source : List ℕ) (lines : List (List ℕ)) → lines ≡ lines_of source → length source < 2 ^ 64 → sum_by length lines < 2 ^ 64
room_of source lines same fits = omega (arith, split_sum (λ b. eqb b 10) source, ap (sum_by length) same)
