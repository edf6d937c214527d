-- A program's canonical text is assembler text of the program's bytes.
use Rattle.std.proofs.Common.{◌≡◌, ℕ, zero, suc, ◌+◌, eqb, ◌<◌, true, false, List, [], ◌∷◌, ◌++◌, length, Option, Some, None, Ok, refl, sym, ap, subst, ◌∙◌, inl, inr, arith}
use Rattle.std.specs.Prelude.{slice_index_or, flat_map}
use Rattle.std.specs.List.{range_with_len}
use Rattle.std.proofs.lemmas.List.{append_assoc}
use Rattle.std.proofs.lemmas.Bool.Decides.{eqb_tells}
use Rattle.bpf_words.specs.declared.instruction.Insn.{Insn}
use Rattle.bpf_words.specs.Encoding.{encoded}
use Rattle.assembler_lines.specs.declared.token.Sign.TheVariants.{Comma, Open, Close, Plus, Minus, Colon}
use Rattle.assembler_lines.specs.Tokens.{is_word_byte, tokens_of}
use Rattle.assembler_lines.specs.Terms.{terms_of}
use Rattle.assembler_lines.specs.Pieces.{Piece, Space, Sig, Text, AreWordBytes, WellLaid, spell}
use Rattle.assembler_lines.specs.Statements.{Judged, Statement, Blank, Plain, reading_of, statement_of}
use Rattle.assembler_lines.specs.Slots.{lines_of, line_at, insn_at}
use Rattle.assembler.specs.Text.{AsmText, AreRight, bytes_of, bytes_before}
use Rattle.disassembler.specs.Canonical.{pieces, canonical_line, canonical}
use Rattle.disassembler.proofs.Fitting.{EachFits}
use Rattle.disassembler.proofs.Again.{laid, line_again}

-- no byte of a line is an LF
abbrev Unbroken : List ℕ → Type 0
Unbroken [] = Unit {0}
Unbroken (b ∷ line) = (eqb b 10 ≡ false) × Unbroken line

unbroken_append : (xs ys : List ℕ) → Unbroken xs → Unbroken ys → Unbroken (xs ++ ys)
unbroken_append [] ys h k = k
unbroken_append (b ∷ xs) ys h k = (h.0, unbroken_append xs ys h.1 k)

word_byte_unbroken : (b : ℕ) → is_word_byte b ≡ true → eqb b 10 ≡ false
unfolding is_word_byte
word_byte_unbroken b h = elim (eqb_tells b 10) [ inl same ↦ absurd (let f : is_word_byte 10 ≡ true = subst (λ (x : ℕ). is_word_byte x ≡ true) same.1 h in cc) | inr other ↦ other.0 ]

word_unbroken : (word : List ℕ) → AreWordBytes word → Unbroken word
word_unbroken [] h = tt
word_unbroken (b ∷ word) h = (word_byte_unbroken b h.0, word_unbroken word h.1)

unbroken : (ps : List Piece) → WellLaid ps → Unbroken (spell ps)
unbroken [] h = tt
unbroken (Space ∷ ps) h = (refl, unbroken ps h)
unbroken (Sig Comma ∷ ps) h = (refl, unbroken ps h)
unbroken (Sig Open ∷ ps) h = (refl, unbroken ps h)
unbroken (Sig Close ∷ ps) h = (refl, unbroken ps h)
unbroken (Sig Plus ∷ ps) h = (refl, unbroken ps h)
unbroken (Sig Minus ∷ ps) h = (refl, unbroken ps h)
unbroken (Sig Colon ∷ ps) h = (refl, unbroken ps h)
unbroken (Text [] ∷ ps) h = absurd h
unbroken (Text (b ∷ word) ∷ ps) h = unbroken_append (b ∷ word) (spell ps) (word_unbroken (b ∷ word) h.0) (unbroken ps h.2)

parted : (line rest : List ℕ) → Unbroken line → lines_of (line ++ 10 ∷ rest) ≡ line ∷ lines_of rest
parted [] rest h = refl
parted (b ∷ line) rest h = rw (h.0, parted line rest h.1) refl

-- the lines of a canonical text, and what each of them is; behind the last LF stands an empty line
abbrev lines : List (Option Insn) → List (List ℕ)
lines [] = [] ∷ []
lines (Some insn ∷ program) = spell (pieces insn) ∷ lines program
lines (None ∷ program) = lines program

abbrev entries : List (Option Insn) → List (Option Insn)
entries [] = None ∷ []
entries (Some insn ∷ program) = Some insn ∷ entries program
entries (None ∷ program) = entries program

lines_again : (program : List (Option Insn)) → EachFits program → lines_of (canonical program) ≡ lines program
unfolding canonical canonical_line
lines_again [] h = refl
lines_again (Some insn ∷ program) h =
    rw append_assoc (parted (spell (pieces insn)) (canonical program) (unbroken (pieces insn) (laid insn h.0)) ∙ ap (λ (rest : List (List ℕ)). spell (pieces insn) ∷ rest) (lines_again program h.1))
lines_again (None ∷ program) h = lines_again program h

as_many : (program : List (Option Insn)) → length (lines program) ≡ length (entries program)
as_many [] = refl
as_many (Some insn ∷ program) = ap suc (as_many program)
as_many (None ∷ program) = as_many program

-- what a line says, by its entry
abbrev saying : Option Insn → Judged Statement
saying None = Ok Blank
saying (Some insn) = Ok (Plain insn)

blank_again : reading_of [] ≡ Ok Blank
unfolding reading_of tokens_of terms_of statement_of
blank_again = refl

each_line : (program : List (Option Insn)) → EachFits program → (k : ℕ) → k < length (entries program)
    → reading_of (slice_index_or (lines program) k []) ≡ saying (slice_index_or (entries program) k None)
each_line [] h zero lt = blank_again
each_line [] h (suc k) lt = absurd (omega arith)
each_line (Some insn ∷ program) h zero lt = line_again insn h.0
each_line (Some insn ∷ program) h (suc k) lt = each_line program h.1 k (omega arith)
each_line (None ∷ program) h k lt = each_line program h k lt

settled : (all : List (List ℕ)) (k : ℕ) (entry : Option Insn) → reading_of (line_at all k) ≡ saying entry → insn_at all k ≡ Ok entry
unfolding insn_at
settled all k None h = rw h refl
settled all k (Some insn) h = rw h refl

each_insn : (program : List (Option Insn)) → EachFits program → (k : ℕ) → k < length (entries program) → insn_at (lines program) k ≡ Ok (slice_index_or (entries program) k None)
each_insn program h k lt = settled (lines program) k (slice_index_or (entries program) k None) (each_line program h k lt)

-- the bytes of an entry
abbrev pub entry_bytes : Option Insn → List ℕ
entry_bytes None = []
entry_bytes (Some insn) = encoded insn

right_bytes : (entry : Option Insn) → bytes_of (Ok entry) ≡ entry_bytes entry
right_bytes None = refl
right_bytes (Some insn) = refl

-- joining by index is joining the list
joined : (f : ℕ → List ℕ) (xs : List (Option Insn)) (a : ℕ) → ((k j : ℕ) → a + k ≡ j → k < length xs → f j ≡ entry_bytes (slice_index_or xs k None))
    → flat_map f (range_with_len a (length xs)) ≡ flat_map entry_bytes xs
joined f [] a h = refl
joined f (x ∷ xs) a h =
    rw (h 0 a (omega arith) (omega arith)) (ap (λ (rest : List ℕ). entry_bytes x ++ rest) (joined f xs (a + 1) (λ k j e lt. h (suc k) j (omega arith) (omega arith))))

without_last : (program : List (Option Insn)) → flat_map entry_bytes (entries program) ≡ flat_map entry_bytes program
without_last [] = refl
without_last (Some insn ∷ program) = ap (λ (rest : List ℕ). encoded insn ++ rest) (without_last program)
without_last (None ∷ program) = without_last program

bytes_again : (program : List (Option Insn)) → EachFits program → bytes_before (lines program) (length (lines program)) ≡ flat_map entry_bytes program
unfolding bytes_before
bytes_again program h =
    rw (as_many program) (joined (λ k. bytes_of (insn_at (lines program) k)) (entries program) 0 (λ k j e lt. step k j e lt) ∙ without_last program) where
      step : (k j : ℕ) → 0 + k ≡ j → k < length (entries program) → bytes_of (insn_at (lines program) j) ≡ entry_bytes (slice_index_or (entries program) k None)
      step k j e lt = let same : k ≡ j = omega arith in rw (← same, each_insn program h k lt) (right_bytes (slice_index_or (entries program) k None))

each_right : (program : List (Option Insn)) → EachFits program → AreRight (lines program) (length (lines program))
each_right program h k lt = let n = as_many program in rw (each_insn program h k (omega arith)) refl

-- the canonical text of instructions in their ranges is assembler text of their bytes
pub text_again : (program : List (Option Insn)) → EachFits program → AsmText (canonical program) (flat_map entry_bytes program)
text_again program h = record {
  right = subst (λ (all : List (List ℕ)). AreRight all (length all)) (sym (lines_again program h)) (each_right program h);
  whole = sym (subst (λ (all : List (List ℕ)). bytes_before all (length all) ≡ flat_map entry_bytes program) (sym (lines_again program h)) (bytes_again program h));
}
