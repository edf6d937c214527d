-- Words with a sign: their numbers, their order, shifts with their sign, and longer words.
use Rattle.std.proofs.Common.{◌≡◌, ℕ, zero, suc, ◌+◌, ◌-◌, ◌*◌, ◌/◌, ◌^◌, ◌<◌, ◌≤◌, nat_lt, true, false, replicate, refl, sym, ◌∙◌, ap, subst, arith, ⊎_elim}
use Rattle.std.specs.Prelude.{ℤ, pos, negsuc, int_lt, int_le, not}
use Rattle.std.specs.Int.{cast_signed, cast_unsigned, int_shr}
use mir.Syntax.{Width as IntWidth}
use mir.Val.{bits as bits_in, hbits}
use Rattle.std.proofs.Math.Nat.{pow-succ'}
use Rattle.std.proofs.lemmas.Bool.{cases_Bool, lt-ltb, le-ltb}
use Rattle.std.proofs.lemmas.Bool.Decides.{nat_tests}
use Rattle.std.proofs.lemmas.Nat.{pow-add}
use Rattle.bpf_words.specs.declared.instruction.Width.{Width}
use Rattle.bpf_words.specs.declared.instruction.Width.TheVariants.{Narrow, Full}
use Rattle.semantics.specs.Value.{bits_of, signed, unsigned}
use Rattle.bit_machine.specs.Bits.{Bits, digit, value, leading, turned, is_less_signed, shifted_with_sign, lengthened}
use Rattle.bit_machine.proofs.Words.{Long, empty, longer, Alike, none, more, alike_long, digit_few, value_below, led}
use Rattle.bit_machine.proofs.Order.{less_is, not_less}
use Rattle.bit_machine.proofs.Shifts.{plain_shift, right_value, set_shift}
use Rattle.bit_machine.proofs.Swaps.{joined_value}

-- ---- what a word means as a number with a sign
abbrev pub half : Width → ℕ
half Narrow = 31
half Full = 63

half_is : (w : Width) → bits_of w ≡ suc (half w)
half_is Narrow = refl
half_is Full = refl

low_signed : (w : Width) (v : ℕ) → v < 2 ^ half w → signed w v ≡ pos v
low_signed Narrow v h = let yes : nat_lt v (2 ^ 31) ≡ true = lt-ltb v (2 ^ 31) h in rw yes refl
low_signed Full v h = let yes : nat_lt v (2 ^ 63) ≡ true = lt-ltb v (2 ^ 63) h in rw yes refl

high_signed : (w : Width) (v : ℕ) → 2 ^ half w ≤ v → signed w v ≡ negsuc (2 ^ bits_of w - suc v)
high_signed Narrow v h = let no : nat_lt v (2 ^ 31) ≡ false = le-ltb v (2 ^ 31) h in rw no refl
high_signed Full v h = let no : nat_lt v (2 ^ 63) ≡ false = le-ltb v (2 ^ 63) h in rw no refl

pub data IsSigned (w : Width) (a : Bits) : Type 0 where
  plain : leading a ≡ false → value a < 2 ^ half w → signed w (value a) ≡ pos (value a) → IsSigned w a
  below : leading a ≡ true → 2 ^ half w ≤ value a → signed w (value a) ≡ negsuc (2 ^ bits_of w - suc (value a)) → IsSigned w a

pub signs : (w : Width) (a : Bits) → Long (bits_of w) a → IsSigned w a
signs w a long =
    let is = led (half w) (bits_of w) a (half_is w) long in
    let small = is.below in
    ⊎_elim
    (λ (high : leading a ≡ true).
    let whole : value a ≡ is.low + 1 * 2 ^ half w = is.whole ∙ ap (λ sign. is.low + digit sign * 2 ^ half w) high in
    let great : 2 ^ half w ≤ value a = omega (arith, whole) in
    below high great (high_signed w (value a) great))
    (λ (low : leading a ≡ false).
    let whole : value a ≡ is.low + 0 * 2 ^ half w = is.whole ∙ ap (λ sign. is.low + digit sign * 2 ^ half w) low in
    let few : value a < 2 ^ half w = omega (arith, whole, small) in
    plain low few (low_signed w (value a) few))
    (cases_Bool (leading a))

pub unsigned_pos : (w : Width) (n : ℕ) → unsigned w (pos n) ≡ n
unsigned_pos Narrow n = refl
unsigned_pos Full n = refl

pub unsigned_negsuc : (w : Width) (n : ℕ) → unsigned w (negsuc n) ≡ 2 ^ bits_of w - suc n
unsigned_negsuc Narrow n = refl
unsigned_negsuc Full n = refl

-- ---- order
pub record IsTurned (n : ℕ) (a : Bits) : Type 0 where
  pub low : value a < 2 ^ n → value (turned a) ≡ value a + 2 ^ n
  pub high : 2 ^ n ≤ value a → value (turned a) + 2 ^ n ≡ value a

turned_value : (n m : ℕ) (a : Bits) → m ≡ suc n → Long m a → IsTurned n a
unfolding value turned
turned_value n m a e empty = absurd (omega (arith, e))
turned_value n m a e (longer false empty) = let none_left : n ≡ 0 = omega (arith, e) in rw none_left (record { low = λ h. omega arith; high = λ h. absurd (omega (arith, h)) })
turned_value n m a e (longer true empty) = let none_left : n ≡ 0 = omega (arith, e) in rw none_left (record { low = λ h. absurd (omega (arith, h)); high = λ h. omega arith })
turned_value zero m a e (longer b (longer c long)) = absurd (omega (arith, e))
turned_value (suc k) m a e (longer {n = j} {rest = rest} b (longer {n = i} {rest = others} c long)) =
    let below = turned_value k j rest (omega (arith, e)) (longer c long) in
    let few = digit_few b in
    record {
      low = λ h.
          let less : digit b + 2 * value rest < 2 * 2 ^ k = rw (pow-succ' 2 k) at h in
          let is = below.low (omega (arith, less)) in
          rw (pow-succ' 2 k) (omega (arith, is));
      high = λ h.
          let more_than : 2 * 2 ^ k ≤ digit b + 2 * value rest = rw (pow-succ' 2 k) at h in
          let is = below.high (omega (arith, more_than, few)) in
          rw (pow-succ' 2 k) (omega (arith, is));
    }

turned_alike : (n : ℕ) (left right : Bits) → Alike n left right → Alike n (turned left) (turned right)
unfolding turned
turned_alike n left right none = none
turned_alike n left right (more a b none) = more (not a) (not b) none
turned_alike n left right (more {n = m} {left = p} {right = q} a b (more c d alike)) = more a b (turned_alike m p q (more c d alike))

both_low : (x y s t p : ℕ) → s ≡ x + p → t ≡ y + p → nat_lt s t ≡ nat_lt x y
both_low x y s t p hs ht = grind (arith, nat_tests, hs, ht)

right_high : (x y s t p : ℕ) → s ≡ x + p → t + p ≡ y → y < 2 * p → nat_lt s t ≡ false
right_high x y s t p hs ht fits = grind (arith, nat_tests, hs, ht)

left_high : (x y s t p : ℕ) → s + p ≡ x → t ≡ y + p → x < 2 * p → nat_lt s t ≡ true
left_high x y s t p hs ht fits = grind (arith, nat_tests, hs, ht)

both_high : (x y s t p : ℕ) → s + p ≡ x → t + p ≡ y → x < 2 * p → y < 2 * p → nat_lt s t ≡ nat_lt (2 * p - suc y) (2 * p - suc x)
both_high x y s t p hs ht fx fy = grind (arith, nat_tests, hs, ht)

whole_is : (w : Width) → 2 ^ bits_of w ≡ 2 * 2 ^ half w
whole_is Narrow = refl
whole_is Full = refl

ordered : (w : Width) (a b : Bits) → value a < 2 ^ bits_of w → value b < 2 ^ bits_of w → IsTurned (half w) a → IsTurned (half w) b → IsSigned w a → IsSigned w b → nat_lt (value (turned a)) (value (turned b)) ≡ int_lt (signed w (value a)) (signed w (value b))
ordered w a b fa fb ta tb (plain la xa ea) (plain lb xb eb) =
    both_low (value a) (value b) (value (turned a)) (value (turned b)) (2 ^ half w) (ta.low xa) (tb.low xb)
    ∙ rw (ea, eb) refl
ordered w a b fa fb ta tb (plain la xa ea) (below lb xb eb) =
    right_high (value a) (value b) (value (turned a)) (value (turned b)) (2 ^ half w) (ta.low xa) (tb.high xb) (subst (λ k. value b < k) (whole_is w) fb)
    ∙ rw (ea, eb) refl
ordered w a b fa fb ta tb (below la xa ea) (plain lb xb eb) =
    left_high (value a) (value b) (value (turned a)) (value (turned b)) (2 ^ half w) (ta.high xa) (tb.low xb) (subst (λ k. value a < k) (whole_is w) fa)
    ∙ rw (ea, eb) refl
ordered w a b fa fb ta tb (below la xa ea) (below lb xb eb) =
    both_high (value a) (value b) (value (turned a)) (value (turned b)) (2 ^ half w) (ta.high xa) (tb.high xb) (subst (λ k. value a < k) (whole_is w) fa) (subst (λ k. value b < k) (whole_is w) fb)
    ∙ rw (ea, eb) (ap (λ k. nat_lt (k - suc (value b)) (k - suc (value a))) (sym (whole_is w)))

pub less_signed_is : (w : Width) (a b : Bits) → Long (bits_of w) a → Long (bits_of w) b → is_less_signed a b ≡ int_lt (signed w (value a)) (signed w (value b))
less_signed_is w a b la lb =
    less_is (bits_of w) (turned a) (turned b) (turned_alike (bits_of w) a b (alike_long (bits_of w) a b la lb))
    ∙ ordered w a b (value_below (bits_of w) a la) (value_below (bits_of w) b lb)
    (turned_value (half w) (bits_of w) a (half_is w) la) (turned_value (half w) (bits_of w) b (half_is w) lb)
    (signs w a la) (signs w b lb)

pub not_less_signed : (x y : ℤ) → not (int_lt x y) ≡ int_le y x
not_less_signed (pos m) (pos n) = not_less m n
not_less_signed (pos m) (negsuc n) = refl
not_less_signed (negsuc m) (pos n) = refl
not_less_signed (negsuc m) (negsuc n) = not_less n m

-- ---- shifts with the sign
shifted_by : (w : Width) (count : ℕ) (a : Bits) → Long (bits_of w) a → IsSigned w a → value (shifted_with_sign count a) ≡ unsigned w (int_shr (signed w (value a)) count)
shifted_by w count a long (plain low few e) =
    ap value (plain_shift count a low) ∙ right_value count a
    ∙ sym (ap (λ z. unsigned w (int_shr z count)) e ∙ unsigned_pos w (value a / 2 ^ count))
shifted_by w count a long (below high great e) =
    let rest = (2 ^ bits_of w - suc (value a)) / 2 ^ count in
    let is : value (shifted_with_sign count a) + suc rest ≡ 2 ^ bits_of w = set_shift (bits_of w) count a long high in
    let less : value (shifted_with_sign count a) ≡ 2 ^ bits_of w - suc rest = omega (arith, is) in
    less ∙ sym (ap (λ z. unsigned w (int_shr z count)) e ∙ unsigned_negsuc w rest)

pub arsh_is : (w : Width) (count : ℕ) (a : Bits) → Long (bits_of w) a → value (shifted_with_sign count a) ≡ unsigned w (int_shr (signed w (value a)) count)
arsh_is w count a long = shifted_by w count a long (signs w a long)

-- ---- longer words
clear_value : (count : ℕ) → value (replicate count false) ≡ 0
unfolding value
clear_value zero = refl
clear_value (suc count) = let rest = clear_value count in omega (arith, rest)

set_value : (count : ℕ) → value (replicate count true) + 1 ≡ 2 ^ count
unfolding value
set_value zero = refl
set_value (suc count) = let rest = set_value count in rw (pow-succ' 2 count) (omega (arith, rest))

low_widened : (u t : IntWidth) (v x : ℕ) → v < 2 ^ hbits u → x ≡ v → x ≡ cast_unsigned t (cast_signed u v)
low_widened u t v x h e = let yes : nat_lt v (2 ^ hbits u) ≡ true = lt-ltb v (2 ^ hbits u) h in e ∙ rw yes refl

high_widened : (u t : IntWidth) (v x : ℕ) → 2 ^ hbits u ≤ v → x ≡ 2 ^ bits_in t - suc (2 ^ bits_in u - suc v) → x ≡ cast_unsigned t (cast_signed u v)
high_widened u t v x h e = let no : nat_lt v (2 ^ hbits u) ≡ false = le-ltb v (2 ^ hbits u) h in e ∙ rw no refl

filled : (p c o v x : ℕ) → o + 1 ≡ c → v < p → x ≡ v + p * o → x ≡ p * c - suc (p - suc v)
filled p c o v x whole fits is =
    let spread : p * o + p ≡ p * (o + 1) = omega arith in
    let products : p * o + p ≡ p * c = spread ∙ ap (λ k. p * k) whole in
    omega (arith, products, fits, is)

-- a word of u bits with its sign, count bits longer, is one of t bits
pub lengthened_is : (u t : IntWidth) (h count : ℕ) (a : Bits) → hbits u ≡ h → bits_in u ≡ suc h → bits_in t ≡ suc h + count → Long (suc h) a → value (lengthened count a) ≡ cast_unsigned t (cast_signed u (value a))
lengthened_is u t h count a eh eu et long =
    let is = led h (suc h) a refl long in
    let small = is.below in
    let fits = value_below (suc h) a long in
    let joined = joined_value (suc h) a (replicate count (leading a)) long in
    ⊎_elim
    (λ (high : leading a ≡ true).
    let whole : value a ≡ is.low + 1 * 2 ^ h = is.whole ∙ ap (λ sign. is.low + digit sign * 2 ^ h) high in
    let great : 2 ^ h ≤ value a = omega (arith, whole) in
    let long_value : value (lengthened count a) ≡ value a + 2 ^ suc h * value (replicate count true)
    = joined ∙ ap (λ sign. value a + 2 ^ suc h * value (replicate count sign)) high in
    let full : value (lengthened count a) ≡ 2 ^ suc h * 2 ^ count - suc (2 ^ suc h - suc (value a))
    = filled (2 ^ suc h) (2 ^ count) (value (replicate count true)) (value a) (value (lengthened count a)) (set_value count) fits long_value in
    let powers : 2 ^ suc h * 2 ^ count ≡ 2 ^ bits_in t = sym (pow-add 2 (suc h) count) ∙ ap (λ k. 2 ^ k) (sym et) in
    high_widened u t (value a) (value (lengthened count a)) (subst (λ k. 2 ^ k ≤ value a) (sym eh) great)
    (full ∙ ap (λ k. k - suc (2 ^ suc h - suc (value a))) powers ∙ ap (λ k. 2 ^ bits_in t - suc (2 ^ k - suc (value a))) (sym eu)))
    (λ (low : leading a ≡ false).
    let whole : value a ≡ is.low + 0 * 2 ^ h = is.whole ∙ ap (λ sign. is.low + digit sign * 2 ^ h) low in
    let few : value a < 2 ^ h = omega (arith, whole, small) in
    let long_value : value (lengthened count a) ≡ value a + 2 ^ suc h * 0
    = joined ∙ ap (λ sign. value a + 2 ^ suc h * value (replicate count sign)) low ∙ ap (λ k. value a + 2 ^ suc h * k) (clear_value count) in
    low_widened u t (value a) (value (lengthened count a)) (subst (λ k. value a < 2 ^ k) (sym eh) few) (long_value ∙ omega arith))
    (cases_Bool (leading a))
