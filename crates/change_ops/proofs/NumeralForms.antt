-- A word is read as a number just where it is the number's numeral.
use Rattle.std.proofs.Common.{◌≡◌, ℕ, zero, suc, ◌+◌, ◌*◌, ◌^◌, ◌<◌, ◌≤◌, Bool, true, false, cond, eqb, List, [], ◌∷◌, map, length, Some, None, refl, sym, ap, ◌∙◌, arith, inl, inr}
use Rattle.std.specs.List.{AllByRecursion}
use Rattle.std.specs.Fmt.{digit_glyph}
use Rattle.std.proofs.lemmas.Bool.{cases_lt, lt-ltb, le-ltb}
use Rattle.std.proofs.lemmas.Bool.Decides.{eqb_tells}
use Rattle.std.proofs.Math.Nat.{pow-zero, pow-succ'}
use Rattle.change_ops.specs.Words.{digit_of, digits_after, number_in, is_no_front}
use Rattle.change_ops.specs.Forms.{digits_value, DigitsOf, LeadsWell, Numeral}
use Rattle.change_ops.proofs.Numerals.{digit_glyph_of, glyph_digit_of, one_more}

-- digits behind those of a number
abbrev pub after_digits : ℕ → ℕ → List ℕ → ℕ
after_digits base n ds = n * base ^ length ds + digits_value base ds

after_one : (base n d : ℕ) (ds : List ℕ) → after_digits base (n * base + d) ds ≡ after_digits base n (d ∷ ds)
unfolding digits_value
after_one base n d ds = rw (pow-succ' base (length ds)) (omega arith)

abbrev pub Below : ℕ → List ℕ → Type 0
Below base ds = AllByRecursion (λ d. d < base) ds

pub record Read (base n m : ℕ) (word : List ℕ) : Type 0 where
  pub digits : List ℕ
  pub below : Below base digits
  pub written : word ≡ map (digit_glyph false) digits
  pub sum : m ≡ after_digits base n digits

pub after_takes : (base n m : ℕ) (word : List ℕ) → base ≤ 16 → digits_after base n word ≡ Some m → Read base n m word
unfolding digits_after digits_value
after_takes base n m [] high e = let same : n ≡ m = cc in record { digits = []; below = tt; written = refl; sum = rw pow-zero (omega arith) }
after_takes base n m (b ∷ bs) high e = elim (cases_lt (digit_of b) base) [
  | inl lt ↦
      let d = digit_of b in
      let on : digits_after base (n * base + d) bs ≡ Some m = rw (lt-ltb d base lt) at e in
      let r = after_takes base (n * base + d) m bs high on in
      let byte : digit_glyph false d ≡ b = glyph_digit_of b (omega arith) in
      record { digits = d ∷ r.digits; below = (lt, r.below); written = (λ i. sym byte i ∷ r.written i); sum = r.sum ∙ after_one base n d r.digits }
  | inr le ↦ absurd (let f = rw (le-ltb (digit_of b) base le) at e in cc)
]

pub after_again : (base n : ℕ) (ds : List ℕ) → base ≤ 16 → Below base ds → digits_after base n (map (digit_glyph false) ds) ≡ Some (after_digits base n ds)
unfolding digits_after digits_value
after_again base n [] high h = ap Some (rw pow-zero (omega arith))
after_again base n (d ∷ ds) high h =
    one_more base n d (map (digit_glyph false) ds) h.0 high ∙ after_again base (n * base + d) ds high h.1 ∙ ap Some (after_one base n d ds)

-- the digit of 0 alone is written as 48
glyph_zero : (d : ℕ) → d < 16 → eqb (digit_glyph false d) 48 ≡ true → d ≡ 0
glyph_zero d small e = elim (eqb_tells (digit_glyph false d) 48) [
  | inl same ↦ let f : digit_of (digit_glyph false d) ≡ digit_of 48 = ap digit_of same.1 in let g = digit_glyph_of d small in omega arith
  | inr other ↦ absurd (let f = other.0 in cc)
]

glyph_more : (d : ℕ) → d < 16 → 0 < d → eqb (digit_glyph false d) 48 ≡ false
glyph_more d small some = go (eqb (digit_glyph false d) 48) refl where
  go : (b : Bool) → eqb (digit_glyph false d) 48 ≡ b → b ≡ false
  go true e = absurd (let z = glyph_zero d small e in omega arith)
  go false e = refl

leads_takes : (base : ℕ) (ds : List ℕ) → base ≤ 16 → Below base ds → is_no_front (map (digit_glyph false) ds) ≡ false → LeadsWell ds
leads_takes base [] high h e = absurd cc
leads_takes base (d ∷ []) high h e = tt
leads_takes base (zero ∷ c ∷ ds) high h e = absurd cc
leads_takes base (suc d ∷ c ∷ ds) high h e = omega arith

leads_again : (base : ℕ) (ds : List ℕ) → base ≤ 16 → Below base ds → LeadsWell ds → is_no_front (map (digit_glyph false) ds) ≡ false
leads_again base [] high h l = absurd l
leads_again base (d ∷ []) high h l = refl
leads_again base (d ∷ c ∷ ds) high h l = glyph_more d (let lt : d < base = h.0 in omega arith) l

pub digits_takes : (base n : ℕ) (word : List ℕ) → base ≤ 16 → digits_after base 0 word ≡ Some n → (ds : List ℕ) × DigitsOf base n ds word
digits_takes base n word high e = let r = after_takes base 0 n word high e in (r.digits, record { below = r.below; written = r.written; sum = r.sum ∙ omega arith })

pub digits_again : (base n : ℕ) (ds word : List ℕ) → base ≤ 16 → DigitsOf base n ds word → digits_after base 0 word ≡ Some n
digits_again base n ds word high h =
    let plain : after_digits base 0 ds ≡ digits_value base ds = omega arith in
    rw h.written (after_again base 0 ds high h.below) ∙ ap Some (plain ∙ sym h.sum)

pub number_takes : (base n : ℕ) (word : List ℕ) → base ≤ 16 → number_in base word ≡ Some n → Numeral base n word
unfolding number_in
number_takes base n word high e = go (is_no_front word) refl e where
  go : (b : Bool) → is_no_front word ≡ b → cond b None (digits_after base 0 word) ≡ Some n → Numeral base n word
  go true f e = absurd cc
  go false f e =
      let r = digits_takes base n word high e in
      record { digits = r.0; leads = leads_takes base r.0 high r.1.below (rw r.1.written at f); spells = r.1 }

pub number_again : (base n : ℕ) (word : List ℕ) → base ≤ 16 → Numeral base n word → number_in base word ≡ Some n
unfolding number_in
number_again base n word high h =
    let front : is_no_front word ≡ false = rw h.spells.written (leads_again base h.digits high h.spells.below h.leads) in
    rw front (digits_again base n h.digits word high h.spells)
