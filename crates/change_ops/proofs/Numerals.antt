-- A number's digits are read back, and no other word without leading zeros reads as the number.
use Rattle.std.proofs.Common.{◌≡◌, ℕ, zero, suc, ◌+◌, ◌*◌, ◌-◌, ◌/◌, ◌%◌, ◌^◌, ◌<◌, ◌≤◌, Bool, true, false, cond, eqb, List, [], ◌∷◌, ◌++◌, length, Some, None, refl, sym, ap, ◌∙◌, arith, inl, inr, append_assoc, length-append}
use Rattle.std.specs.Fmt.{digits, digits_onto, digit_glyph, padded_integral, char_count, format_spec}
use Rattle.std.specs.Prelude.{replicate}
use Rattle.std.proofs.lemmas.Bool.{cases_lt, lt-ltb, le-ltb, eq-eqb}
use Rattle.std.proofs.lemmas.Bool.Decides.{eqb_tells}
use Rattle.std.proofs.lemmas.List.{append-nil, length-replicate}
use Rattle.std.proofs.lemmas.Nat.{div-mul-add, div-add-mod', mod-mul-add}
use Rattle.std.proofs.Math.Nat.{mod-lt, pow-zero, pow-suc, mod-eq_of_lt, div-eq_of_lt, div-lt_iff_lt-mul, le-mul_of_pos_right, mul-le-mul_left, mul-le-mul_right, pow-succ', mul_assoc, sub-zero}
use Rattle.std.proofs.Math.Pow.{pow_mono}
use Rattle.change_ops.specs.Words.{digit_of, digits_after, number_in, is_no_front}
use Rattle.change_ops.specs.Spelling.{last_digits}

glyph : ℕ → ℕ
glyph = digit_glyph false

-- a digit's value
pub digit_glyph_of : (d : ℕ) → d < 16 → digit_of (digit_glyph false d) ≡ d
digit_glyph_of d h = elim (cases_lt d 10) [
  | inl lt ↦ rw (lt-ltb d 10 lt, le-ltb (48 + d) 48 (omega arith), lt-ltb (48 + d) 58 (omega arith)) (omega arith)
  | inr le ↦ rw (le-ltb d 10 le, le-ltb (87 + d) 48 (omega arith), le-ltb (87 + d) 58 (omega arith), le-ltb (87 + d) 97 (omega arith), lt-ltb (87 + d) 103 (omega arith)) (omega arith)
]

-- a byte that is a digit
pub glyph_digit_of : (b : ℕ) → digit_of b < 16 → digit_glyph false (digit_of b) ≡ b
glyph_digit_of b h = elim (cases_lt b 48) [
  | inl one ↦ absurd (let e : digit_of b ≡ 255 = rw (lt-ltb b 48 one) refl in omega arith)
  | inr low ↦ elim (cases_lt b 58) [
    | inl lt ↦
        let e : digit_of b ≡ b - 48 = rw (le-ltb b 48 low, lt-ltb b 58 lt) refl in
        let small : b - 48 < 10 = omega arith in
        rw (e, lt-ltb (b - 48) 10 small) (omega arith)
    | inr two ↦ elim (cases_lt b 97) [
      | inl lt ↦ absurd (let e : digit_of b ≡ 255 = rw (le-ltb b 48 low, le-ltb b 58 two, lt-ltb b 97 lt) refl in omega arith)
      | inr three ↦ elim (cases_lt b 103) [
        | inl lt ↦
            let e : digit_of b ≡ b - 87 = rw (le-ltb b 48 low, le-ltb b 58 two, le-ltb b 97 three, lt-ltb b 103 lt) refl in
            let big : 10 ≤ b - 87 = omega arith in
            rw (e, le-ltb (b - 87) 10 big) (omega arith)
        | inr four ↦ absurd (let e : digit_of b ≡ 255 = rw (le-ltb b 48 low, le-ltb b 58 two, le-ltb b 97 three, le-ltb b 103 four) refl in omega arith)
      ]
    ]
  ]
]

-- one digit is read
pub one_more : (base n d : ℕ) (rest : List ℕ) → d < base → base ≤ 16 → digits_after base n (digit_glyph false d ∷ rest) ≡ digits_after base (n * base + d) rest
unfolding digits_after
one_more base n d rest small low = let e = digit_glyph_of d (omega arith) in rw (e, lt-ltb d base small) refl

-- all but the last digit
fewer : (base k n : ℕ) → 0 < base → n < base ^ suc k → n / base < base ^ k
fewer base k n some small = (div-lt_iff_lt-mul some).1 (rw pow-suc at small)

some_left : (base k m : ℕ) → m < base ^ k → 0 < m → 0 < k
some_left base zero m small some = absurd (omega (arith, pow-zero base))
some_left base (suc k) m small some = omega arith

not_zero : (m : ℕ) → eqb m 0 ≡ false → 0 < m
not_zero zero e = absurd cc
not_zero (suc m) e = omega arith

-- digits that are written before others are read before them
pub onto_again : (base k n : ℕ) (rest : List ℕ) → 2 ≤ base → base ≤ 16 → n < base ^ k → 0 < k → digits_after base 0 (digits_onto k base false n rest) ≡ digits_after base n rest
onto_again base zero n rest low high small some = absurd (omega arith)
onto_again base (suc k) n rest low high small some =
    let d : n % base < base = mod-lt n (omega arith) in
    let whole : n / base * base + n % base ≡ n = div-add-mod' n base in
    elim (eqb_tells (n / base) 0) [
      | inl last ↦
          let z : n / base ≡ 0 = last.1 in
          let same : 0 * base + n % base ≡ n = rw z at whole in
          rw last.0 (one_more base 0 (n % base) rest d high ∙ ap (λ (m : ℕ). digits_after base m rest) same)
      | inr more ↦
          let less : n / base < base ^ k = fewer base k n (omega arith) small in
          let left : 0 < k = some_left base k (n / base) less (not_zero (n / base) more.0) in
          rw more.0 (onto_again base k (n / base) (digit_glyph false (n % base) ∷ rest) low high less left ∙ one_more base (n / base) (n % base) rest d high ∙ ap (λ (m : ℕ). digits_after base m rest) whole)
    ]

abbrev Fronted : List ℕ → Type 0
Fronted word = (c : ℕ) × (cs : List ℕ) × (word ≡ c ∷ cs) × (eqb c 48 ≡ false)

-- the first digit is none of 0
front : (base k n : ℕ) (rest : List ℕ) → 2 ≤ base → base ≤ 16 → 0 < n → n < base ^ k → Fronted (digits_onto k base false n rest)
front base zero n rest low high some small = absurd (omega (arith, pow-zero base))
front base (suc k) n rest low high some small =
    let whole : n / base * base + n % base ≡ n = div-add-mod' n base in
    let d : n % base < base = mod-lt n (omega arith) in
    elim (eqb_tells (n / base) 0) [
      | inl last ↦
          let z : n / base ≡ 0 = last.1 in
          let same : 0 * base + n % base ≡ n = rw z at whole in
          rw last.0 (
            digit_glyph false (n % base),
            rest,
            refl,
            elim (eqb_tells (digit_glyph false (n % base)) 48) [
              | inl zero_digit ↦ absurd (let e : digit_of (digit_glyph false (n % base)) ≡ digit_of 48 = ap digit_of zero_digit.1 in let f = digit_glyph_of (n % base) (omega arith) in omega arith)
              | inr other ↦ other.0
            ],
          )
      | inr more ↦ rw more.0 (front base k (n / base) (digit_glyph false (n % base) ∷ rest) low high (not_zero (n / base) more.0) (fewer base k n (omega arith) small))
    ]

front_is : (word : List ℕ) → Fronted word → is_no_front word ≡ false
front_is word (c, cs, e, other) = rw e (go cs) where
  go : (cs : List ℕ) → is_no_front (c ∷ cs) ≡ false
  go [] = refl
  go (b ∷ bs) = other

-- a number's digits read as the number
pub number_of_digits : (base n : ℕ) → 2 ≤ base → base ≤ 16 → 0 < n → n < base ^ 64 → number_in base (digits base false n) ≡ Some n
unfolding digits number_in digits_after
number_of_digits base n low high some small = rw (front_is (digits_onto 64 base false n []) (front base 64 n [] low high some small)) (onto_again base 64 n [] low high small (omega arith))

-- a number below base ^ j has at most j digits
pub length_onto : (base k j n : ℕ) (rest : List ℕ) → 2 ≤ base → n < base ^ j → 0 < j → length (digits_onto k base false n rest) ≤ j + length rest
length_onto base zero j n rest low small some = omega arith
length_onto base (suc k) zero n rest low small some = absurd (omega arith)
length_onto base (suc k) (suc j) n rest low small some = elim (eqb_tells (n / base) 0) [
  | inl last ↦ rw last.0 (omega arith)
  | inr more ↦
      let less : n / base < base ^ j = fewer base j n (omega arith) small in
      let left : 0 < j = some_left base j (n / base) less (not_zero (n / base) more.0) in
      rw more.0 (let h : length (digits_onto k base false (n / base) (digit_glyph false (n % base) ∷ rest)) ≤ j + suc (length rest) = length_onto base k j (n / base) (digit_glyph false (n % base) ∷ rest) low less left in omega arith)
]

-- what was read digit by digit was written digit by digit
spelled_after : (base k n m : ℕ) (ds rest : List ℕ) → 2 ≤ base → base ≤ 16 → 0 < n → digits_after base n ds ≡ Some m → digits_onto (length ds + k) base false m rest ≡ digits_onto k base false n (ds ++ rest)
unfolding digits_after
spelled_after base k n m [] rest low high some e = let same : n ≡ m = cc in let z : 0 + k ≡ k = omega arith in rw (z, same) refl
spelled_after base k n m (c ∷ cs) rest low high some e = elim (cases_lt (digit_of c) base) [
  | inl lt ↦
      let d = digit_of c in
      let on : digits_after base (n * base + d) cs ≡ Some m = rw (lt-ltb d base lt) at e in
      let up : n ≤ n * base = le-mul_of_pos_right n (omega arith) in
      let later = spelled_after base (suc k) (n * base + d) m cs rest low high (omega arith) on in
      let count : suc (length cs) + k ≡ length cs + suc k = omega arith in
      let front_part : (n * base + d) / base ≡ n = div-mul-add n base d lt in
      let last_part : (n * base + d) % base ≡ d = mod-mul-add n base d lt in
      let byte : digit_glyph false d ≡ c = glyph_digit_of c (omega arith) in
      let no : eqb n 0 ≡ false = elim (eqb_tells n 0) [ inl z ↦ absurd (let w = z.1 in omega arith) | inr w ↦ w.0 ] in
      let step : digits_onto (suc k) base false (n * base + d) (cs ++ rest) ≡ digits_onto k base false n (c ∷ (cs ++ rest)) = rw (front_part, last_part, no, byte) refl in
      ap (λ (j : ℕ). digits_onto j base false m rest) count ∙ later ∙ step
  | inr le ↦ absurd (let f = rw (le-ltb (digit_of c) base le) at e in cc)
]

-- each digit at least doubles the number
doubles : (base n m : ℕ) (ds : List ℕ) → 2 ≤ base → digits_after base n ds ≡ Some m → n * 2 ^ length ds ≤ m
unfolding digits_after
doubles base n m [] low e = let same : n ≡ m = cc in omega arith
doubles base n m (c ∷ cs) low e = elim (cases_lt (digit_of c) base) [
  | inl lt ↦
      let d = digit_of c in
      let on : digits_after base (n * base + d) cs ≡ Some m = rw (lt-ltb d base lt) at e in
      let later : (n * base + d) * 2 ^ length cs ≤ m = doubles base (n * base + d) m cs low on in
      let one : n * 2 ≤ n * base = mul-le-mul_left n low in
      let two : n * 2 * 2 ^ length cs ≤ (n * base + d) * 2 ^ length cs = mul-le-mul_right (2 ^ length cs) (omega arith) in
      let three : n * 2 ^ suc (length cs) ≡ n * 2 * 2 ^ length cs = rw (pow-succ' 2 (length cs), mul_assoc n 2 (2 ^ length cs)) refl in
      omega arith
  | inr le ↦ absurd (let f = rw (le-ltb (digit_of c) base le) at e in cc)
]

short : (base n m : ℕ) (ds : List ℕ) → 2 ≤ base → 0 < n → m < 2 ^ 63 → digits_after base n ds ≡ Some m → length ds < 63
short base n m ds low some small e = elim (cases_lt (length ds) 63) [
  | inl lt ↦ lt
  | inr le ↦ absurd (let p : 2 ^ 63 ≤ 2 ^ length ds = pow_mono le in let h = doubles base n m ds low e in let q : 1 * 2 ^ length ds ≤ n * 2 ^ length ds = mul-le-mul_right (2 ^ length ds) some in omega arith)
]

abbrev onto : ℕ → ℕ → List ℕ
onto base n = digits_onto 64 base false n []

as_onto : (base n : ℕ) → digits base false n ≡ onto base n
unfolding digits
as_onto base n = refl

-- the word of one digit and more, where the first isn't 0
led : (base n c : ℕ) (cs : List ℕ) → 2 ≤ base → base ≤ 16 → n < 2 ^ 63 → digit_of c < base → 0 < digit_of c → digits_after base (digit_of c) cs ≡ Some n → c ∷ cs ≡ onto base n
led base n c cs low high small lt some e =
    let d = digit_of c in
    let few : length cs < 63 = short base d n cs low some small e in
    let later : digits_onto (length cs + suc (63 - length cs)) base false n [] ≡ digits_onto (suc (63 - length cs)) base false d (cs ++ []) = spelled_after base (suc (63 - length cs)) d n cs [] low high some e in
    let count : length cs + suc (63 - length cs) ≡ 64 = omega arith in
    let none : d / base ≡ 0 = div-eq_of_lt lt in
    let last : d % base ≡ d = mod-eq_of_lt lt in
    let byte : digit_glyph false d ≡ c = glyph_digit_of c (omega arith) in
    let step : digits_onto (suc (63 - length cs)) base false d (cs ++ []) ≡ c ∷ cs = rw (none, last, byte, append-nil cs) refl in
    sym (ap (λ (j : ℕ). digits_onto j base false n []) (sym count) ∙ later ∙ step)

-- a first digit of 0 is the last
not_zero_first : (base n c : ℕ) (cs : List ℕ) → 0 < n → digit_of c ≡ 0 → c ≡ 48 → is_no_front (c ∷ cs) ≡ false → digits_after base 0 cs ≡ Some n → ⊥
unfolding digits_after
not_zero_first base n c [] some z same front e = let f : 0 ≡ n = cc in omega arith
not_zero_first base n c (b ∷ bs) some z same front e = let f : eqb c 48 ≡ true = eq-eqb c 48 same in cc

-- a word that reads as a number is the number's digits
pub digits_of_number : (base n : ℕ) (word : List ℕ) → 2 ≤ base → base ≤ 16 → 0 < n → n < 2 ^ 63 → number_in base word ≡ Some n → word ≡ digits base false n
unfolding number_in digits_after
digits_of_number base n word low high some small e = go (is_no_front word) refl e ∙ sym (as_onto base n) where
  read : (word : List ℕ) → is_no_front word ≡ false → digits_after base 0 word ≡ Some n → word ≡ onto base n
  read [] f e = absurd cc
  read (c ∷ cs) f e = elim (cases_lt (digit_of c) base) [
    | inl lt ↦
        let on : digits_after base (0 * base + digit_of c) cs ≡ Some n = rw (lt-ltb (digit_of c) base lt) at e in
        let plain : 0 * base + digit_of c ≡ digit_of c = omega arith in
        let go_on : digits_after base (digit_of c) cs ≡ Some n = rw plain at on in
        elim (cases_lt 0 (digit_of c)) [
          | inl more ↦ led base n c cs low high small lt more go_on
          | inr none ↦
              let z : digit_of c ≡ 0 = omega arith in
              let same : c ≡ 48 = sym (glyph_digit_of c (omega arith)) ∙ ap (digit_glyph false) z in
              absurd (not_zero_first base n c cs some z same f (rw z at go_on))
        ]
    | inr le ↦ absurd (let g = rw (le-ltb (digit_of c) base le) at e in cc)
  ]

  go : (b : Bool) → is_no_front word ≡ b → cond b None (digits_after base 0 word) ≡ Some n → word ≡ onto base n
  go true f e = absurd cc
  go false f e = read word f e

-- the color's digits
pub last_again : (count n : ℕ) (rest : List ℕ) → n < 16 ^ count → digits_after 16 0 (last_digits count n ++ rest) ≡ digits_after 16 n rest
unfolding last_digits
last_again zero n rest small = let z : n ≡ 0 = omega (arith, pow-zero 16) in rw z refl
last_again (suc count) n rest small =
    let d : n % 16 < 16 = mod-lt n (omega arith) in
    let whole : n / 16 * 16 + n % 16 ≡ n = div-add-mod' n 16 in
    rw append_assoc (last_again count (n / 16) (digit_glyph false (n % 16) ∷ rest) (fewer 16 count n (omega arith) small) ∙ one_more 16 (n / 16) (n % 16) rest d (omega arith) ∙ ap (λ (m : ℕ). digits_after 16 m rest) whole)

pub last_length : (count n : ℕ) → length (last_digits count n) ≡ count
unfolding last_digits
last_length zero n = refl
last_length (suc count) n = let h = last_length count (n / 16) in omega (arith, length-append (last_digits count (n / 16)) (digit_glyph false (n % 16) ∷ []))

pub last_takes : (k n m : ℕ) (ds : List ℕ) → digits_after 16 n ds ≡ Some m → last_digits (length ds + k) m ≡ last_digits k n ++ ds
unfolding last_digits digits_after
last_takes k n m [] e = let same : n ≡ m = cc in let z : 0 + k ≡ k = omega arith in rw (z, same) (sym (append-nil (last_digits k m)))
last_takes k n m (c ∷ cs) e = elim (cases_lt (digit_of c) 16) [
  | inl lt ↦
      let d = digit_of c in
      let on : digits_after 16 (n * 16 + d) cs ≡ Some m = rw (lt-ltb d 16 lt) at e in
      let later = last_takes (suc k) (n * 16 + d) m cs on in
      let count : suc (length cs) + k ≡ length cs + suc k = omega arith in
      let front_part : (n * 16 + d) / 16 ≡ n = div-mul-add n 16 d lt in
      let last_part : (n * 16 + d) % 16 ≡ d = mod-mul-add n 16 d lt in
      let byte : digit_glyph false d ≡ c = glyph_digit_of c lt in
      let step : last_digits (suc k) (n * 16 + d) ++ cs ≡ last_digits k n ++ (c ∷ cs) = rw (front_part, last_part, byte) (append_assoc (last_digits k n) (c ∷ []) cs) in
      ap (λ (j : ℕ). last_digits j m) count ∙ later ∙ step
  | inr le ↦ absurd (let f = rw (le-ltb (digit_of c) 16 le) at e in cc)
]

-- a word of `count` digits, leading zeros too
pub digits_padded : (count n : ℕ) (word : List ℕ) → length word ≡ count → digits_after 16 0 word ≡ Some n → word ≡ last_digits count n
unfolding last_digits
digits_padded count n word long e =
    let k : length word + 0 ≡ count = omega arith in
    sym (ap (λ (j : ℕ). last_digits j n) (sym k) ∙ last_takes 0 0 n word e)

pub length_hexadecimal : (n : ℕ) → n < 16 ^ 6 → length (digits 16 false n) ≤ 6
length_hexadecimal n small = rw as_onto (let h = length_onto 16 64 6 n [] (omega arith) small (omega arith) in omega arith)

pub read_hexadecimal : (n : ℕ) → n < 16 ^ 6 → digits_after 16 0 (digits 16 false n) ≡ Some n
unfolding digits_after
read_hexadecimal n small = rw as_onto (onto_again 16 64 n [] (omega arith) (omega arith) (omega arith) (omega arith))

zeros_again : (count : ℕ) (word : List ℕ) → digits_after 16 0 (replicate count 48 ++ word) ≡ digits_after 16 0 word
unfolding digits_after
zeros_again zero word = refl
zeros_again (suc count) word = zeros_again count word

-- what is written of a color
pub six_written : (n : ℕ) → n < 16 ^ 6 → padded_integral (format_spec 32 0 4 6 (2 ^ 64 - 1)) false [] (digits 16 false n) ≡ last_digits 6 n
unfolding padded_integral char_count
six_written n small =
    let ds = digits 16 false n in
    let word = replicate (6 - length ds) 48 ++ ds in
    let few : length ds ≤ 6 = length_hexadecimal n small in
    let long : length word ≡ 6 = omega (arith, length-append (replicate (6 - length ds) 48) ds, length-replicate {A = ℕ} (6 - length ds) 48) in
    let read : digits_after 16 0 word ≡ Some n = zeros_again (6 - length ds) ds ∙ read_hexadecimal n small in
    let written : padded_integral (format_spec 32 0 4 6 (2 ^ 64 - 1)) false [] ds ≡ word = simp (append-nil, sub-zero) in
    written ∙ digits_padded 6 n word long read
