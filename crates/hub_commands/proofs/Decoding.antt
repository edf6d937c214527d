-- What the first digits of a text say of all of them.
use Rattle.std.proofs.Common.{◌≡◌, ℕ, zero, suc, ◌+◌, ◌*◌, ◌%◌, ◌==◌, true, false, nat_eq, List, [], ◌∷◌, length, take, Option, Some, None, Result, Ok, Err, IfOk, refl, sym, ap, ◌∙◌, arith}
use Rattle.std.specs.Prelude.{MatchOption}
use Rattle.std.specs.Cmp.Lexicographic.{pointwise}
use Rattle.std.specs.List.{list_all}
use Rattle.std.specs.Result.{result_unwrap_or}
use Rattle.std.proofs.lemmas.Bool.{eqb-true, eqb-false}
use Rattle.std.proofs.lemmas.List.{length-take, take-take}
use Rattle.std.proofs.lemmas.List.Sums.{AllPass-from_list_all, list_all-from_AllPass}
use Rattle.hex.specs.Hex.{decode_of, decode_pairs, is_hex_digit, pair_value}
use Rattle.hex.specs.declared.error.FromHexError.{FromHexError}
use Rattle.hex.specs.declared.error.FromHexError.TheVariants.{OddLength}
use Rattle.hex.proofs.HexLemmas.{decode_of-even, decode_of-odd, decode_of-digits, decode_of-ok, decode_of-same}
use Rattle.hex.proofs.Pairs.{cons_byte, decode_pairs-ok_pair, decode_pairs-err_pair}
use Rattle.hub_commands.specs.Hints.{begins_with_mark}
use Rattle.hub_commands.specs.Digits.{AreDigits, StandFor}
use Rattle.hub_commands.specs.declared.digits.Digits.{Digits}

-- the first three bytes tell whether a text begins with a mark
pub marked_same : (input front lent : List ℕ) → front ≡ take 3 input → lent ≡ front → begins_with_mark input ≡ begins_with_mark lent
marked_same input front lent is lends =
    ap (λ (xs : List ℕ). pointwise nat_eq (0xef ∷ 0xbb ∷ 0xbf ∷ []) xs) (sym (take-take 3 3 input (omega arith))) ∙ ap begins_with_mark (sym (lends ∙ is))

-- ---- digits that stand for no bytes
pub none_of_odd : (digits : List ℕ) → (length digits % 2 == 1) ≡ true → (error : FromHexError) × (decode_of digits ≡ Err error)
none_of_odd digits odd = (OddLength, decode_of-odd digits (eqb-true (length digits % 2) 1 odd))

pub none_of_wrong : (digits : List ℕ) → list_all is_hex_digit digits ≡ false → (error : FromHexError) × (decode_of digits ≡ Err error)
none_of_wrong digits wrong = go (decode_of digits) refl where
  go : (r : Result (List ℕ) FromHexError) → decode_of digits ≡ r → (error : FromHexError) × (decode_of digits ≡ Err error)
  go (Err error) is = (error, is)
  go (Ok bytes) is = absurd (let right = list_all-from_AllPass is_hex_digit digits (decode_of-ok digits bytes is).1 in cc)

-- ---- the first bytes are those of the first digits
bytes_same : (a b : List ℕ) → ◌≡◌ {A = Result (List ℕ) FromHexError} (Ok a) (Ok b) → a ≡ b
bytes_same a b e = ap (λ (r : Result (List ℕ) FromHexError). result_unwrap_or r []) e

first_pair : (i a b n m : ℕ) (rest all : List ℕ) → ((bytes : List ℕ) → decode_pairs (i + 2) rest ≡ Ok bytes → decode_pairs (i + 2) (take m rest) ≡ Ok (take n bytes))
    → decode_pairs i (a ∷ b ∷ rest) ≡ Ok all → decode_pairs i (a ∷ b ∷ take m rest) ≡ Ok (take (suc n) all)
first_pair i a b n m rest all more h = go (pair_value a b i) refl (decode_pairs (i + 2) rest) refl where
  go : (p : Result ℕ FromHexError) → pair_value a b i ≡ p → (r : Result (List ℕ) FromHexError) → decode_pairs (i + 2) rest ≡ r → decode_pairs i (a ∷ b ∷ take m rest) ≡ Ok (take (suc n) all)
  go (Err e) pair r is = absurd (let none = sym (decode_pairs-err_pair i a b e rest pair) ∙ h in cc)
  go (Ok v) pair (Err e) is = absurd (let none = sym (decode_pairs-ok_pair i a b v rest pair ∙ ap (cons_byte v) is) ∙ h in cc)
  go (Ok v) pair (Ok bytes) is =
      let whole : v ∷ bytes ≡ all = bytes_same (v ∷ bytes) all (sym (decode_pairs-ok_pair i a b v rest pair ∙ ap (cons_byte v) is) ∙ h) in
      decode_pairs-ok_pair i a b v (take m rest) pair ∙ ap (cons_byte v) (more bytes is) ∙ ap (λ (xs : List ℕ). Ok (take (suc n) xs)) whole

decode_first : (n m i : ℕ) (digits all : List ℕ) → m ≡ 2 * n → decode_pairs i digits ≡ Ok all → decode_pairs i (take m digits) ≡ Ok (take n all)
unfolding decode_pairs
decode_first zero zero i digits all e h = refl
decode_first zero (suc m) i digits all e h = absurd (omega arith)
decode_first (suc n) zero i digits all e h = absurd (omega arith)
decode_first (suc n) (suc zero) i digits all e h = absurd (omega arith)
decode_first (suc n) (suc (suc m)) i [] all e h = ap (λ (xs : List ℕ). Ok (take (suc n) xs)) (bytes_same [] all h)
decode_first (suc n) (suc (suc m)) i (a ∷ []) all e h = cc h
decode_first (suc n) (suc (suc m)) i (a ∷ b ∷ rest) all e h = first_pair i a b n m rest all (λ bytes is. decode_first n m (i + 2) rest bytes (omega arith) is) h

first_decoded : (digits all : List ℕ) → decode_of digits ≡ Ok all → decode_of (take 65538 digits) ≡ Ok (take 32769 all)
first_decoded digits all h =
    let even = (decode_of-ok digits all h).0 in
    let short : length (take 65538 digits) % 2 ≡ 0 = omega (arith, even, length-take 65538 digits) in
    decode_of-even (take 65538 digits) short ∙ decode_first 32769 65538 0 digits all (omega arith) (sym (decode_of-even digits even) ∙ h)

all_decoded : (digits : List ℕ) (kept : Digits) → AreDigits digits kept → kept.is_odd ≡ false → kept.are_right ≡ true → (all : List ℕ) × (decode_of digits ≡ Ok all)
all_decoded digits kept are odd right =
    let even : (length digits % 2 == 1) ≡ false = sym are.odd ∙ odd in
    decode_of-digits digits (omega (arith, eqb-false (length digits % 2) 1 even)) (AllPass-from_list_all is_hex_digit digits (sym are.right ∙ right))

-- what decoding the digits that are kept says of all of them
pub bytes_found : {V E : Type 0} (items : V → List ℕ) (kept : Digits) (lent : List ℕ) (result : Result (Option V) E) → lent ≡ kept.first.items
    → IfOk result (λ answer. MatchOption answer ((error : FromHexError) × (decode_of lent ≡ Err error)) (λ bytes. decode_of lent ≡ Ok (items bytes)))
    → kept.is_odd ≡ false → kept.are_right ≡ true
    → IfOk result (λ answer. (digits : List ℕ) → AreDigits digits kept → MatchOption answer ((error : FromHexError) × (decode_of digits ≡ Err error)) (λ bytes. StandFor digits (items bytes)))
bytes_found items kept lent (Err e) lends given odd right = tt
bytes_found items kept lent (Ok None) lends given odd right = λ digits are.
    let all = all_decoded digits kept are odd right in
    let first = ap decode_of (lends ∙ are.first) ∙ first_decoded digits all.0 all.1 in
    absurd (let none = sym given.1 ∙ first in cc)
bytes_found items kept lent (Ok (Some bytes)) lends given odd right = λ digits are.
    let all = all_decoded digits kept are odd right in
    let first = ap decode_of (lends ∙ are.first) ∙ first_decoded digits all.0 all.1 in
    (all.0, all.1, decode_of-same lent (items bytes) (take 32769 all.0) given first)
