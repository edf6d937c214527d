-- The words of a canonical line, and what each of them means.
use Rattle.std.proofs.Common.{◌≡◌, ℕ, zero, suc, eqb, ◌<◌, ◌≤◌, ◌^◌, Bool, true, false, not, ◌&&◌, List, [], ◌∷◌, ◌++◌, length, Option, Some, Ok, ℤ, pos, negsuc, refl, sym, subst, ◌∙◌, arith, inl, inr}
use Rattle.std.specs.Prelude.{codes, cond, FitsSigned}
use Rattle.std.specs.Str.{bytes_eq}
use Rattle.std.specs.Int.{w16, w32}
use Rattle.std.specs.List.{list_all, find}
use Rattle.std.specs.Fmt.{decimal, digits}
use Rattle.std.specs.Char.{digit_value, is_digit}
use Rattle.std.specs.Str.Parse.{AllDigits, digits_value}
use Rattle.std.proofs.Math.Bool.{and-false}
use Rattle.std.proofs.lemmas.Bool.{lt-ltb, le-leb, le-ltb}
use Rattle.std.proofs.lemmas.Bool.Decides.{eqb_tells}
use Rattle.std.proofs.lemmas.Fmt.{decimal_is_IsNumeral}
use Rattle.std.proofs.lemmas.Str.Parse.{digit_from_value}
use Rattle.assembler_lines.specs.declared.form.Form.{Form}
use Rattle.assembler_lines.specs.declared.token.Numeral.{Numeral}
use Rattle.assembler_lines.specs.declared.token.SignedNumeral.{SignedNumeral}
use Rattle.assembler_lines.specs.Tokens.{is_word_byte}
use Rattle.assembler_lines.specs.Pieces.{Piece, Text, AreWordBytes, BeginsApart, WellLaid}
use Rattle.assembler_lines.specs.Terms.{Name, Number, bounded, are_digits, numeral_of, term_of_word}
use Rattle.assembler_lines.specs.Mnemonics.{name_of, all_forms, form_named}
use Rattle.assembler_lines.specs.Shapes.{signed}
use Rattle.assembler_lines.specs.Statements.{register, register_named, within, offset, immediate}
use Rattle.assembler_lines.proofs.Naming.{form_again}

-- a number without a sign, as the assembler reads it
abbrev pub numeral : ℕ → Numeral
numeral n = record { hexadecimal = false; value = Some n }

abbrev pub number_of : ℤ → SignedNumeral
number_of (pos n) = signed false (numeral n)
number_of (negsuc n) = signed true (numeral (suc n))

not_x : (b : ℕ) → digit_value b < 10 → eqb 120 b ≡ false
not_x b h = elim (eqb_tells 120 b) [ inl same ↦ absurd (let f : digit_value 120 < 10 = subst (λ (x : ℕ). digit_value x < 10) (sym same.1) h in omega arith) | inr other ↦ other.0 ]

not_none : (n : ℕ) → 0 < n → eqb n 0 ≡ false
not_none n some = elim (eqb_tells n 0) [ inl same ↦ absurd (let f = same.1 in omega arith) | inr other ↦ other.0 ]

all_digits : (ds : List ℕ) → AllDigits 10 ds → list_all (λ b. is_digit b 10) ds ≡ true
all_digits [] h = refl
all_digits (b ∷ ds) h = rw (lt-ltb _ _ h.0) (all_digits ds h.1)

numeral_of_digits : (ds : List ℕ) → 0 < length ds → AllDigits 10 ds → numeral_of ds ≡ Some (record { hexadecimal = false; value = bounded (digits_value 10 ds) })
unfolding numeral_of are_digits
numeral_of_digits [] some h = absurd (omega arith)
numeral_of_digits (b ∷ []) some h = rw (and-false, all_digits (b ∷ []) h) refl
numeral_of_digits (b ∷ c ∷ ds) some h = rw (not_x c h.1.0, and-false, not_none (length (b ∷ c ∷ ds)) some, all_digits (b ∷ c ∷ ds) h) refl

term_of_digits : (ds : List ℕ) → 0 < length ds → AllDigits 10 ds → term_of_word ds ≡ Some (Number (record { hexadecimal = false; value = bounded (digits_value 10 ds) }))
unfolding term_of_word
term_of_digits [] some h = absurd (omega arith)
term_of_digits (b ∷ ds) some h = rw (lt-ltb _ _ h.0, numeral_of_digits (b ∷ ds) some h) refl

pub number_term : (n : ℕ) → n < 2 ^ 64 → term_of_word (decimal n) ≡ Some (Number (numeral n))
number_term n h = let d = decimal_is_IsNumeral n h in
    term_of_digits (decimal n) d.0.0 d.0.1 ∙ rw (d.1, lt-ltb n (2 ^ 64) h) refl

pub register_term : (n : ℕ) → term_of_word (codes "r" ++ decimal n) ≡ Some (Name (codes "r" ++ decimal n))
unfolding term_of_word
register_term n = refl

pub register_again : (n : ℕ) → n ≤ 10 → register (codes "r" ++ decimal n) ≡ Ok n
unfolding register register_named digits
register_again zero h = refl
register_again (suc zero) h = refl
register_again (suc (suc zero)) h = refl
register_again (suc (suc (suc zero))) h = refl
register_again (suc (suc (suc (suc zero)))) h = refl
register_again (suc (suc (suc (suc (suc zero))))) h = refl
register_again (suc (suc (suc (suc (suc (suc zero)))))) h = refl
register_again (suc (suc (suc (suc (suc (suc (suc zero))))))) h = refl
register_again (suc (suc (suc (suc (suc (suc (suc (suc zero)))))))) h = refl
register_again (suc (suc (suc (suc (suc (suc (suc (suc (suc zero))))))))) h = refl
register_again (suc (suc (suc (suc (suc (suc (suc (suc (suc (suc zero)))))))))) h = refl
register_again (suc (suc (suc (suc (suc (suc (suc (suc (suc (suc (suc n))))))))))) h = absurd (omega arith)

within_pos : (limit n : ℕ) → n < limit → within limit (number_of (pos n)) ≡ Some (pos n)
unfolding within
within_pos limit n h = rw (lt-ltb n limit h) refl

within_neg : (limit n : ℕ) → n < limit → within limit (number_of (negsuc n)) ≡ Some (negsuc n)
unfolding within
within_neg limit n h = rw (le-leb (suc n) limit (omega arith)) refl

pub near_again : (z : ℤ) → FitsSigned w16 z → within (2 ^ 15) (number_of z) ≡ Some z
near_again (pos n) h = within_pos (2 ^ 15) n h.sfits
near_again (negsuc n) h = within_neg (2 ^ 15) n h.sfits

pub far_again : (z : ℤ) → FitsSigned w32 z → within (2 ^ 31) (number_of z) ≡ Some z
far_again (pos n) h = within_pos (2 ^ 31) n h.sfits
far_again (negsuc n) h = within_neg (2 ^ 31) n h.sfits

pub offset_again : (z : ℤ) → FitsSigned w16 z → offset (number_of z) ≡ Ok z
unfolding offset
offset_again z h = rw (near_again z h) refl

pub immediate_again : (z : ℤ) → FitsSigned w32 z → immediate (number_of z) ≡ Ok z
unfolding immediate
immediate_again (pos n) h = rw (far_again (pos n) h) refl
immediate_again (negsuc n) h = rw (far_again (negsuc n) h) refl

and_parts : (x y : Bool) → (x && y) ≡ true → (x ≡ true) × (y ≡ true)
and_parts true y h = (refl, h)
and_parts false y h = absurd (cc)

-- what is true of every form is true of the one that a search finds
by_first : (good : Form → Bool) (first form : Form) (rest : Option Form) (b : Bool) → good first ≡ true → (rest ≡ Some form → good form ≡ true)
    → cond b (Some first) rest ≡ Some form → good form ≡ true
by_first good first form rest true here later h = let same : first ≡ form = cc in rw (← same) here
by_first good first form rest false here later h = later h

found : (test good : Form → Bool) (forms : List Form) (form : Form) → list_all good forms ≡ true → find test forms ≡ Some form → good form ≡ true
found test good [] form all h = absurd (cc)
found test good (first ∷ forms) form all h =
    let a = and_parts (good first) (list_all good forms) all in
    by_first good first form (find test forms) (test first) a.0 (found test good forms form a.1) h

is_mnemonic : List ℕ → Bool
is_mnemonic [] = false
is_mnemonic (b ∷ word) = not (is_digit b 10) && list_all is_word_byte (b ∷ word)

all_mnemonics : list_all (λ form. is_mnemonic (name_of form)) all_forms ≡ true
unfolding is_mnemonic name_of all_forms is_word_byte
all_mnemonics = refl

every_mnemonic : (form : Form) → is_mnemonic (name_of form) ≡ true
unfolding form_named
every_mnemonic form = found (λ other. bytes_eq (name_of other) (name_of form)) (λ other. is_mnemonic (name_of other)) all_forms form all_mnemonics (form_again form)

name_begins : (x y : Bool) → (not x && y) ≡ true → (x ≡ false) × (y ≡ true)
name_begins true y h = absurd (cc)
name_begins false y h = (refl, h)

mnemonic_term : (word : List ℕ) → is_mnemonic word ≡ true → term_of_word word ≡ Some (Name word)
unfolding is_mnemonic term_of_word
mnemonic_term [] h = absurd (cc)
mnemonic_term (b ∷ word) h =
    let e : is_digit b 10 ≡ false = (name_begins (is_digit b 10) (list_all is_word_byte (b ∷ word)) h).0 in
    rw e refl

pub name_term : (form : Form) → term_of_word (name_of form) ≡ Some (Name (name_of form))
name_term form = mnemonic_term (name_of form) (every_mnemonic form)

word_bytes : (word : List ℕ) → list_all is_word_byte word ≡ true → AreWordBytes word
word_bytes [] h = tt
word_bytes (b ∷ word) h = let a = and_parts (is_word_byte b) (list_all is_word_byte word) h in (a.0, word_bytes word a.1)

mnemonic_laid : (word : List ℕ) (ps : List Piece) → is_mnemonic word ≡ true → BeginsApart ps → WellLaid ps → WellLaid (Text word ∷ ps)
unfolding is_mnemonic
mnemonic_laid [] ps h apart laid = absurd (cc)
mnemonic_laid (b ∷ word) ps h apart laid = (word_bytes (b ∷ word) (name_begins (is_digit b 10) (list_all is_word_byte (b ∷ word)) h).1, apart, laid)

pub name_laid : (form : Form) (ps : List Piece) → BeginsApart ps → WellLaid ps → WellLaid (Text (name_of form) ∷ ps)
name_laid form ps apart laid = mnemonic_laid (name_of form) ps (every_mnemonic form) apart laid

digit_is_word : (b : ℕ) → digit_value b < 10 → is_word_byte b ≡ true
unfolding is_word_byte
digit_is_word b h = let r = digit_from_value b h in rw (le-ltb b 48 r.0, le-ltb 57 b r.1) refl

digits_are_words : (ds : List ℕ) → AllDigits 10 ds → AreWordBytes ds
digits_are_words [] h = tt
digits_are_words (b ∷ bs) h = (digit_is_word b h.0, digits_are_words bs h.1)

digits_laid : (ds : List ℕ) (ps : List Piece) → 0 < length ds → AllDigits 10 ds → BeginsApart ps → WellLaid ps → WellLaid (Text ds ∷ ps)
digits_laid [] ps some h apart laid = absurd (omega arith)
digits_laid (b ∷ ds) ps some h apart laid = (digits_are_words (b ∷ ds) h, apart, laid)

pub number_laid : (n : ℕ) (ps : List Piece) → n < 2 ^ 64 → BeginsApart ps → WellLaid ps → WellLaid (Text (decimal n) ∷ ps)
number_laid n ps h apart laid = let d = decimal_is_IsNumeral n h in digits_laid (decimal n) ps d.0.0 d.0.1 apart laid

pub register_laid : (n : ℕ) (ps : List Piece) → n ≤ 10 → BeginsApart ps → WellLaid ps → WellLaid (Text (codes "r" ++ decimal n) ∷ ps)
unfolding is_word_byte
register_laid n ps h apart laid = let d = decimal_is_IsNumeral n (omega arith) in ((refl, digits_are_words (decimal n) d.0.1), apart, laid)
