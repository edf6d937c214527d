-- What an instruction makes of words is what it makes of numbers.
use Rattle.std.proofs.Common.{◌≡◌, ℕ, zero, suc, ◌+◌, ◌-◌, ◌*◌, ◌/◌, ◌%◌, ◌^◌, ◌<◌, nat_eq, Bool, true, false, List, take, drop, refl, sym, ◌∙◌, ap, arith}
use Rattle.std.specs.Prelude.{not, ◌&&◌, if◌then◌else◌, slice_index, int_div, int_rem}
use Rattle.std.specs.Int.{cast_signed, cast_unsigned, int_shr, w8, w16, w32, w64, byte_at, bytes_low_first}
use Rattle.std.proofs.Math.Nat.{pow-succ', mod-eq_of_lt, div-div-eq-div-mul}
use Rattle.std.proofs.lemmas.Bool.{eqb-false}
use Rattle.std.proofs.lemmas.Nat.{mod-pow-add, mod-mul-add}
use Rattle.byteorder.specs.Endian.{little_bytes, big_number, big_from}
use Rattle.bpf_words.specs.declared.instruction.Width.{Width}
use Rattle.bpf_words.specs.declared.instruction.Width.TheVariants.{Narrow, Full}
use Rattle.bpf_words.specs.declared.instruction.Arithmetic.{Arithmetic}
use Rattle.bpf_words.specs.declared.instruction.Arithmetic.TheVariants.{Add, Sub, Mul, Div, Or, And, Lsh, Rsh, Mod, Xor, Mov, Arsh, SignedDiv, SignedMod}
use Rattle.bpf_words.specs.declared.instruction.Extension.{Extension}
use Rattle.bpf_words.specs.declared.instruction.Extension.TheVariants.{FromByte, FromHalf, FromWord, NarrowFromByte, NarrowFromHalf}
use Rattle.bpf_words.specs.declared.instruction.Conversion.{Conversion}
use Rattle.bpf_words.specs.declared.instruction.Conversion.TheVariants.{ToLittleEndian, ToBigEndian, Swap}
use Rattle.bpf_words.specs.declared.instruction.ConvertedBits.{ConvertedBits}
use Rattle.bpf_words.specs.declared.instruction.ConvertedBits.TheVariants.{Bits16, Bits32, Bits64}
use Rattle.bpf_words.specs.declared.instruction.Comparison.{Comparison}
use Rattle.bpf_words.specs.declared.instruction.Comparison.TheVariants.{Equal, Greater, GreaterOrEqual, AnyBit, NotEqual, SignedGreater, SignedGreaterOrEqual, Less, LessOrEqual, SignedLess, SignedLessOrEqual}
use Rattle.bpf_words.specs.declared.instruction.SignedSize.{SignedSize}
use Rattle.bpf_words.specs.declared.instruction.SignedSize.TheVariants.{SignedByte, SignedHalf, SignedWord}
use Rattle.semantics.specs.Value.{bits_of, cut, signed, unsigned, value_of, negated, extended, converted, holds_of, with_sign}
use Rattle.semantics.specs.Memory.{bytes_in_signed}
use Rattle.bit_machine.specs.Bits.{Bits, value, bits, has_any, zeros, each, negation, swapped, quotient, remainder, signed_quotient, signed_remainder}
use Rattle.bit_machine.specs.Machine.{word, distance_in, result_of, extension_of, conversion_of, holds_by, signed_word}
use Rattle.bit_machine.proofs.Words.{Long, alike_long, value_below, bits_long, bits_value, zeros_value, any_is}
use Rattle.bit_machine.proofs.Sums.{sum_is, difference_is, negation_is}
use Rattle.bit_machine.proofs.Order.{same_is, less_is, not_less}
use Rattle.bit_machine.proofs.Each.{and_is, or_is, xor_is}
use Rattle.bit_machine.proofs.Shifts.{left_value, right_value, product_value}
use Rattle.bit_machine.proofs.Swaps.{cut_at, reversed, swapped_value}
use Rattle.bit_machine.proofs.Signs.{less_signed_is, not_less_signed, arsh_is, lengthened_is}
use Rattle.bit_machine.proofs.Division.{quotient_is, remainder_is, signed_quotient_is, signed_remainder_is}

-- ---- words
word_long : (w : Width) (n : ℕ) → Long (bits_of w) (word w n)
word_long Narrow n = bits_long 32 n
word_long Full n = bits_long 64 n

word_value : (w : Width) (n : ℕ) → value (word w n) ≡ cut w n
word_value Narrow n = bits_value 32 n
word_value Full n = bits_value 64 n

low_part : (k n : ℕ) (a : Bits) → Long (k + n) a → value (take k a) ≡ value a % 2 ^ k
low_part k n a long =
    let parts = cut_at k n (k + n) a refl long in
    let turned_round : value (take k a) + 2 ^ k * value (drop k a) ≡ value (drop k a) * 2 ^ k + value (take k a) = omega arith in
    sym (mod-mul-add (value (drop k a)) (2 ^ k) (value (take k a)) (value_below k (take k a) parts.low))
    ∙ ap (λ v. v % 2 ^ k) (sym (parts.value ∙ turned_round))

distance_is : (w : Width) (b : Bits) → Long (bits_of w) b → distance_in w b ≡ value b % bits_of w
distance_is Narrow b long = low_part 5 27 b long
distance_is Full b long = low_part 6 58 b long

-- ---- arithmetic
chosen : (x y : Bits) (nothing any : Bool) (m k : ℕ) → any ≡ not nothing → (nothing ≡ false → value x ≡ k) → value y ≡ m → value (if any then x else y) ≡ (if nothing then m else k)
chosen x y true any m k e first second = ap (λ (b : Bool). value (if b then x else y)) e ∙ second
chosen x y false any m k e first second = ap (λ (b : Bool). value (if b then x else y)) e ∙ first refl

some : (v : ℕ) → nat_eq v 0 ≡ false → 0 < v
some v e = let apart = eqb-false v 0 e in omega (arith, apart)

result_is : (operation : Arithmetic) (w : Width) (a b : Bits) → Long (bits_of w) a → Long (bits_of w) b → value (result_of operation w a b) ≡ value_of operation w (value a) (value b)
result_is Add w a b la lb = sum_is (bits_of w) a b la lb
result_is Sub w a b la lb = difference_is (bits_of w) a b la lb
result_is Mul w a b la lb = product_value (bits_of w) a b la
result_is Div w a b la lb =
    chosen (quotient a b) (zeros a) (nat_eq (value b) 0) (has_any b) 0 (value a / value b) (any_is b)
    (λ e. quotient_is (bits_of w) a b lb (some (value b) e)) (zeros_value a)
result_is Or w a b la lb = or_is (bits_of w) a b (alike_long (bits_of w) a b la lb)
result_is And w a b la lb = and_is (bits_of w) a b (alike_long (bits_of w) a b la lb)
result_is Lsh w a b la lb =
    left_value (bits_of w) (distance_in w b) a la ∙ ap (λ k. value a * 2 ^ k % 2 ^ bits_of w) (distance_is w b lb)
result_is Rsh w a b la lb = right_value (distance_in w b) a ∙ ap (λ k. value a / 2 ^ k) (distance_is w b lb)
result_is Mod w a b la lb =
    chosen (remainder a b) a (nat_eq (value b) 0) (has_any b) (value a) (value a % value b) (any_is b)
    (λ e. remainder_is (bits_of w) a b lb (some (value b) e)) refl
result_is Xor w a b la lb = xor_is (bits_of w) a b (alike_long (bits_of w) a b la lb)
result_is Mov w a b la lb = refl
result_is Arsh w a b la lb =
    arsh_is w (distance_in w b) a la
    ∙ ap (λ k. unsigned w (int_shr (signed w (value a)) k)) (distance_is w b lb)
result_is SignedDiv w a b la lb =
    chosen (signed_quotient a b) (zeros a) (nat_eq (value b) 0) (has_any b) 0 (unsigned w (int_div (signed w (value a)) (signed w (value b)))) (any_is b)
    (λ e. signed_quotient_is w a b la lb (some (value b) e)) (zeros_value a)
result_is SignedMod w a b la lb =
    chosen (signed_remainder a b) a (nat_eq (value b) 0) (has_any b) (value a) (unsigned w (int_rem (signed w (value a)) (signed w (value b)))) (any_is b)
    (λ e. signed_remainder_is w a b la lb (some (value b) e)) refl

pub arithmetic_agrees : (operation : Arithmetic) (w : Width) (a b : ℕ) → value (result_of operation w (word w a) (word w b)) ≡ value_of operation w (cut w a) (cut w b)
arithmetic_agrees operation w a b =
    result_is operation w (word w a) (word w b) (word_long w a) (word_long w b)
    ∙ ap (λ k. value_of operation w k (value (word w b))) (word_value w a)
    ∙ ap (λ k. value_of operation w (cut w a) k) (word_value w b)

pub negation_agrees : (w : Width) (a : ℕ) → value (negation (word w a)) ≡ negated w (cut w a)
negation_agrees w a =
    negation_is (bits_of w) (word w a) (word_long w a) ∙ ap (λ k. (2 ^ bits_of w - k) % 2 ^ bits_of w) (word_value w a)

-- ---- numbers with a sign in longer words
pub extension_agrees : (extension : Extension) (a : ℕ) → value (extension_of extension a) ≡ extended extension a
extension_agrees FromByte a =
    lengthened_is w8 w64 7 56 (bits 8 a) refl refl refl (bits_long 8 a) ∙ ap (λ k. cast_unsigned w64 (cast_signed w8 k)) (bits_value 8 a)
extension_agrees FromHalf a =
    lengthened_is w16 w64 15 48 (bits 16 a) refl refl refl (bits_long 16 a) ∙ ap (λ k. cast_unsigned w64 (cast_signed w16 k)) (bits_value 16 a)
extension_agrees FromWord a =
    lengthened_is w32 w64 31 32 (bits 32 a) refl refl refl (bits_long 32 a) ∙ ap (λ k. cast_unsigned w64 (cast_signed w32 k)) (bits_value 32 a)
extension_agrees NarrowFromByte a =
    lengthened_is w8 w32 7 24 (bits 8 a) refl refl refl (bits_long 8 a) ∙ ap (λ k. cast_unsigned w32 (cast_signed w8 k)) (bits_value 8 a)
extension_agrees NarrowFromHalf a =
    lengthened_is w16 w32 15 16 (bits 16 a) refl refl refl (bits_long 16 a) ∙ ap (λ k. cast_unsigned w32 (cast_signed w16 k)) (bits_value 16 a)

pub signed_word_agrees : (size : SignedSize) (n : ℕ) → n < 256 ^ bytes_in_signed size → value (signed_word size n) ≡ with_sign size n
signed_word_agrees SignedByte n fits =
    extension_agrees FromByte n ∙ ap (λ k. cast_unsigned w64 (cast_signed w8 k)) (mod-eq_of_lt fits)
signed_word_agrees SignedHalf n fits =
    extension_agrees FromHalf n ∙ ap (λ k. cast_unsigned w64 (cast_signed w16 k)) (mod-eq_of_lt fits)
signed_word_agrees SignedWord n fits =
    extension_agrees FromWord n ∙ ap (λ k. cast_unsigned w64 (cast_signed w32 k)) (mod-eq_of_lt fits)

-- ---- bytes in the other order
reversed_cut : (count x : ℕ) → reversed count (x % 2 ^ (8 * count)) ≡ reversed count x
unfolding reversed
reversed_cut zero x = refl
reversed_cut (suc count) x =
    let longer : 8 * suc count ≡ 8 * count + 8 = omega arith in
    let parts : x % 2 ^ (8 * suc count) ≡ (x / 256 % 2 ^ (8 * count)) * 256 + x % 256
    = ap (λ k. x % 2 ^ k) longer ∙ mod-pow-add x (8 * count) 8 in
    let low : x % 2 ^ (8 * suc count) % 256 ≡ x % 256 = omega (arith, parts) in
    let high : x % 2 ^ (8 * suc count) / 256 ≡ x / 256 % 2 ^ (8 * count) = omega (arith, parts) in
    ap (λ k. k * 256 ^ count + reversed count (x % 2 ^ (8 * suc count) / 256)) low
    ∙ ap (λ k. x % 256 * 256 ^ count + reversed count k) high
    ∙ ap (λ k. x % 256 * 256 ^ count + k) (reversed_cut count (x / 256))

next_quotient : (n j : ℕ) → n / 256 ^ suc j ≡ n / 256 / 256 ^ j
next_quotient n j = ap (λ k. n / k) (pow-succ' 256 j) ∙ sym (div-div-eq-div-mul n 256 (256 ^ j))

big_is : (count i n : ℕ) (xs : List ℕ) → ((j : ℕ) → j < count → slice_index xs (i + j) ≡ n / 256 ^ j % 256) → big_from i count xs ≡ reversed count n
unfolding reversed
big_is zero i n xs here = refl
big_is (suc count) i n xs here =
    let at : i ≡ i + 0 = omega arith in
    let whole : n / 256 ^ 0 % 256 ≡ n % 256 = omega arith in
    let first : slice_index xs i ≡ n % 256 = ap (slice_index xs) at ∙ here 0 (omega arith) ∙ whole in
    let rest : big_from (suc i) count xs ≡ reversed count (n / 256)
    = big_is count (suc i) (n / 256) xs (λ j l. ap (slice_index xs) (moved i j) ∙ here (suc j) (omega (arith, l)) ∙ ap (λ k. k % 256) (next_quotient n j)) in
    ap (λ k. k * 256 ^ count + big_from (suc i) count xs) first ∙ ap (λ k. n % 256 * 256 ^ count + k) rest
  where
    moved : (i j : ℕ) → suc i + j ≡ i + suc j
    moved i j = omega arith

at_place : (i x : ℕ) → byte_at i x ≡ x / 256 ^ i % 256
at_place zero x = omega arith
at_place (suc i) x = refl

byte_there : (i n x j : ℕ) → j < n → slice_index (bytes_low_first i n x) j ≡ x / 256 ^ (i + j) % 256
byte_there i zero x j within = absurd (omega (arith, within))
byte_there i (suc n) x zero within =
    let at : i ≡ i + 0 = omega arith in at_place i x ∙ ap (λ k. x / 256 ^ k % 256) at
byte_there i (suc n) x (suc j) within =
    let at : suc i + j ≡ i + suc j = omega arith in
    byte_there (suc i) n x j (omega (arith, within)) ∙ ap (λ k. x / 256 ^ k % 256) at

swapped_agrees : (count a : ℕ) → value (swapped count (bits (8 * count) a)) ≡ big_number count (little_bytes count a)
swapped_agrees count a =
    swapped_value count (bits (8 * count) a) (bits_long (8 * count) a)
    ∙ ap (reversed count) (bits_value (8 * count) a)
    ∙ reversed_cut count a
    ∙ sym (big_is count 0 a (bytes_low_first 0 count a) (λ j l.
    ap (slice_index (bytes_low_first 0 count a)) (nothing j) ∙ byte_there 0 count a j l ∙ ap (λ k. a / 256 ^ k % 256) (nothing j)))
  where
    nothing : (j : ℕ) → 0 + j ≡ j
    nothing j = omega arith

pub conversion_agrees : (conversion : Conversion) (kept : ConvertedBits) (a : ℕ) → value (conversion_of conversion kept a) ≡ converted conversion kept a
conversion_agrees ToLittleEndian Bits16 a = bits_value 16 a
conversion_agrees ToLittleEndian Bits32 a = bits_value 32 a
conversion_agrees ToLittleEndian Bits64 a = bits_value 64 a
conversion_agrees ToBigEndian Bits16 a = swapped_agrees 2 a
conversion_agrees ToBigEndian Bits32 a = swapped_agrees 4 a
conversion_agrees ToBigEndian Bits64 a = swapped_agrees 8 a
conversion_agrees Swap Bits16 a = swapped_agrees 2 a
conversion_agrees Swap Bits32 a = swapped_agrees 4 a
conversion_agrees Swap Bits64 a = swapped_agrees 8 a

-- ---- comparisons
holds_is : (comparison : Comparison) (w : Width) (a b : Bits) → Long (bits_of w) a → Long (bits_of w) b → holds_by comparison a b ≡ holds_of comparison w (value a) (value b)
holds_is Equal w a b la lb = same_is (bits_of w) a b (alike_long (bits_of w) a b la lb)
holds_is Greater w a b la lb = less_is (bits_of w) b a (alike_long (bits_of w) b a lb la)
holds_is GreaterOrEqual w a b la lb =
    ap not (less_is (bits_of w) a b (alike_long (bits_of w) a b la lb)) ∙ not_less (value a) (value b)
holds_is AnyBit w a b la lb =
    any_is (each (λ x y. x && y) a b) ∙ ap (λ k. not (nat_eq k 0)) (and_is (bits_of w) a b (alike_long (bits_of w) a b la lb))
holds_is NotEqual w a b la lb = ap not (same_is (bits_of w) a b (alike_long (bits_of w) a b la lb))
holds_is SignedGreater w a b la lb = less_signed_is w b a lb la
holds_is SignedGreaterOrEqual w a b la lb =
    ap not (less_signed_is w a b la lb) ∙ not_less_signed (signed w (value a)) (signed w (value b))
holds_is Less w a b la lb = less_is (bits_of w) a b (alike_long (bits_of w) a b la lb)
holds_is LessOrEqual w a b la lb =
    ap not (less_is (bits_of w) b a (alike_long (bits_of w) b a lb la)) ∙ not_less (value b) (value a)
holds_is SignedLess w a b la lb = less_signed_is w a b la lb
holds_is SignedLessOrEqual w a b la lb =
    ap not (less_signed_is w b a lb la) ∙ not_less_signed (signed w (value b)) (signed w (value a))

pub comparison_agrees : (comparison : Comparison) (w : Width) (a b : ℕ) → holds_by comparison (word w a) (word w b) ≡ holds_of comparison w (cut w a) (cut w b)
comparison_agrees comparison w a b =
    holds_is comparison w (word w a) (word w b) (word_long w a) (word_long w b)
    ∙ ap (λ k. holds_of comparison w k (value (word w b))) (word_value w a)
    ∙ ap (λ k. holds_of comparison w (cut w a) k) (word_value w b)
