-- The bytes of 16 digits, pair by pair.
use Rattle.std.proofs.Common.{◌≡◌, ℕ, ◌+◌, ◌*◌, ◌%◌, ◌<◌, ◌≤◌, inl, inr, List, length, take, drop, slice_index, slice_set, Option, Some, None, unwrap_or, Ok, Err, bit_or, false, refl, sym, ap, ◌∙◌, arith}
use Rattle.std.specs.List.{list_all}
use Rattle.std.proofs.lemmas.Bool.{cases_lt}
use Rattle.std.proofs.lemmas.List.{length-set}
use Rattle.std.proofs.lemmas.Nat.{le_or_l, le_or_r, or_of_8}
use Rattle.hex.specs.Hex.{decode_of, decode_pairs, hex_digit_value, is_hex_digit, pair_value}
use Rattle.hex.specs.declared.error.FromHexError.{FromHexError}
use Rattle.hex.specs.declared.error.FromHexError.TheVariants.{InvalidHexCharacter}
use Rattle.hex.proofs.HexLemmas.{decode_of-even}
use Rattle.hex.proofs.Pairs.{prepend, decode_done, decode_err, decode_step}
use Rattle.hex_table.specs.Table.{digit_value}
use Rattle.hex_table.proofs.Joined.{wrong_of}

small : (byte v : ℕ) → hex_digit_value byte ≡ Some v → v < 16
small byte v h = grind (arith)

value_of : (byte : ℕ) (o : Option ℕ) → hex_digit_value byte ≡ o → digit_value byte ≡ unwrap_or o 256
value_of byte o h = ap (λ (o : Option ℕ). unwrap_or o 256) h

abbrev pub pair_of : ℕ → ℕ → ℕ
pair_of a b = digit_value a * 16 + digit_value b

-- two digits
pub pair_read : (a b i : ℕ) → pair_of a b < 256 → pair_value a b i ≡ Ok (pair_of a b)
pair_read a b i less = go (hex_digit_value a) refl (hex_digit_value b) refl where
  go : (h : Option ℕ) → hex_digit_value a ≡ h → (l : Option ℕ) → hex_digit_value b ≡ l → pair_value a b i ≡ Ok (pair_of a b)
  go (Some h) ha (Some l) la = rw (ha, la) refl
  go (Some h) ha None la = absurd (let none = value_of b None la in omega (arith, none, less))
  go None ha l la = absurd (let none = value_of a None ha in omega (arith, none, less))

-- not two digits
pub pair_fails : (a b i : ℕ) → 256 ≤ pair_of a b → (error : FromHexError) × (pair_value a b i ≡ Err error)
pair_fails a b i most = go (hex_digit_value a) refl (hex_digit_value b) refl where
  go : (h : Option ℕ) → hex_digit_value a ≡ h → (l : Option ℕ) → hex_digit_value b ≡ l → (error : FromHexError) × (pair_value a b i ≡ Err error)
  go (Some h) ha (Some l) la = absurd (let first = value_of a (Some h) ha in let second = value_of b (Some l) la in omega (arith, most, first, second, small a h ha, small b l la))
  go (Some h) ha None la = (InvalidHexCharacter b (i + 1), rw (ha, la) refl)
  go None ha l la = (InvalidHexCharacter a i, rw ha refl)

-- the first pairs are read: where `seen` is below 256 these are their bytes, and else the text stands for none
pub record AreRead (digits bytes : List ℕ) (seen at : ℕ) : Type 0 where
  pub room : length bytes ≡ 8
  pub right : seen < 256 → decode_pairs 0 digits ≡ prepend (take at bytes) (decode_pairs (2 * at) (drop (2 * at) digits))
  pub wrong : 256 ≤ seen → (error : FromHexError) × (decode_pairs 0 digits ≡ Err error)

pub read_more : (digits bytes : List ℕ) (seen at value : ℕ) → 2 * at + 1 < length digits → at < 8
    → value ≡ pair_of (slice_index digits (2 * at)) (slice_index digits (2 * at + 1)) → AreRead digits bytes seen at
    → AreRead digits (slice_set bytes at (value % 256)) (bit_or seen value) (at + 1)
read_more digits bytes seen at value fits room is read =
    let a = slice_index digits (2 * at) in
    let b = slice_index digits (2 * at + 1) in
    record {
      room = length-set bytes at (value % 256) ∙ read.room;
      right = λ less.
          let before : seen < 256 = omega (arith, le_or_l seen value, less) in
          let now : value < 256 = omega (arith, le_or_r seen value, less) in
          let same : value % 256 ≡ value = omega (arith, now) in
          let pair : pair_value a b (2 * at) ≡ Ok (value % 256) = pair_read a b (2 * at) (omega (arith, is, now)) ∙ ap Ok (sym is ∙ sym same) in
          decode_step digits bytes at (value % 256) fits (omega (arith, room, read.room)) pair (read.right before);
      wrong = λ most.
          elim (cases_lt seen 256) [
            | inl before ↦
                elim (cases_lt value 256) [
                  | inl now ↦ absurd (omega (arith, or_of_8 seen value before now, most))
                  | inr now ↦
                      let bad = pair_fails a b (2 * at) (omega (arith, is, now)) in
                      (bad.0, decode_err digits bytes at bad.0 fits bad.1 (read.right before))
                ]
            | inr before ↦ read.wrong before
          ];
    }

-- all pairs are read
pub read_whole : (digits bytes : List ℕ) (seen at : ℕ) → length digits ≡ 16 → 8 ≤ at → seen < 256 → AreRead digits bytes seen at
    → decode_of digits ≡ Ok bytes
read_whole digits bytes seen at digits_are all less read =
    decode_of-even digits (omega (arith, digits_are)) ∙ decode_done digits bytes at (omega (arith, all, read.room)) (omega arith) (read.right less)

pub none_read : (digits bytes : List ℕ) (seen at : ℕ) → length digits ≡ 16 → 256 ≤ seen → AreRead digits bytes seen at → list_all is_hex_digit digits ≡ false
none_read digits bytes seen at digits_are most read =
    let bad = read.wrong most in
    wrong_of digits (omega (arith, digits_are)) (bad.0, decode_of-even digits (omega (arith, digits_are)) ∙ bad.1)
