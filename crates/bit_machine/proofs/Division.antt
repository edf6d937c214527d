-- Long division gives the quotient and the remainder; with signs, those of the magnitudes with their sign.
use Rattle.std.proofs.Common.{◌≡◌, ℕ, zero, suc, ◌+◌, ◌-◌, ◌*◌, ◌/◌, ◌%◌, ◌^◌, ◌<◌, ◌≤◌, nat_lt, Bool, true, false, [], ◌∷◌, ◌++◌, take, drop, refl, sym, ◌∙◌, ap, subst, arith}
use Rattle.std.specs.Prelude.{ℤ, pos, negsuc, int_div, int_rem, not, if◌then◌else◌}
use lib.IntN.{neg_ℤ}
use Rattle.std.proofs.Math.Nat.{pow-succ', mod-eq_of_lt}
use Rattle.std.proofs.lemmas.Bool.{ltb-true, ltb-false}
use Rattle.std.proofs.lemmas.Nat.{mod-mul-add, div-mul-add, pow_pos}
use Rattle.bpf_words.specs.declared.instruction.Width.{Width}
use Rattle.bpf_words.specs.declared.instruction.Width.TheVariants.{Narrow, Full}
use Rattle.semantics.specs.Value.{bits_of, signed, unsigned}
use Rattle.bit_machine.specs.Bits.{Bits, digit, value, leading, differ, difference, is_less, moved_up, lessened, left_over, times_within, quotient, remainder, negated_if, magnitude, signed_quotient, signed_remainder}
use Rattle.bit_machine.proofs.Words.{Long, empty, longer, alike_long, value_below, length_long, zeros_long, zeros_value}
use Rattle.bit_machine.proofs.Sums.{difference_is, difference_long, negation_is, negation_long}
use Rattle.bit_machine.proofs.Order.{less_is}
use Rattle.bit_machine.proofs.Shifts.{last, up_long, up_is}
use Rattle.bit_machine.proofs.Swaps.{IsCut, cut_at}
use Rattle.bit_machine.proofs.Signs.{half, IsSigned, plain, below, signs, unsigned_pos}

-- ---- a divisor that is taken away where it fits
record IsLessened (m : ℕ) (up d : Bits) (less : Bool) : Type 0 where
  long : Long m (if less then up else difference up d)
  small : value (if less then up else difference up d) < value d
  whole : value up ≡ digit (not less) * value d + value (if less then up else difference up d)

taken : (v d p : ℕ) → d ≤ v → v < p → (v + (p - d)) % p ≡ v - d
taken v d p fits within =
    let same : v + (p - d) ≡ 1 * p + (v - d) = omega (arith, fits, within) in
    ap (λ k. k % p) same ∙ mod-mul-add 1 p (v - d) (omega (arith, within))

lessening : (m : ℕ) (up d : Bits) (less : Bool) → less ≡ nat_lt (value up) (value d) → Long m up → Long m d → value up < 2 * value d → IsLessened m up d less
lessening m up d true e long also twice =
    let few : value up < value d = ltb-true (value up) (value d) (sym e) in
    record { long = long; small = few; whole = omega arith }
lessening m up d false e long also twice =
    let fits : value d ≤ value up = ltb-false (value up) (value d) (sym e) in
    let is : value (difference up d) ≡ value up - value d
    = difference_is m up d long also ∙ taken (value up) (value d) (2 ^ m) fits (value_below m up long) in
    record {
      long = difference_long m up d (alike_long m up d long also);
      small = omega (arith, is, fits, twice);
      whole = omega (arith, is, fits);
    }

-- ---- long division
record IsDivided (m : ℕ) (a d : Bits) : Type 0 where
  long : Long m (left_over a d)
  small : value (left_over a d) < value d
  whole : value a ≡ value (times_within a d) * value d + value (left_over a d)

no_loss : (c : Bool) (p x y : ℕ) → digit c * p + x ≡ y → y < p → x ≡ y
no_loss false p x y e fits = omega (arith, e)
no_loss true p x y e fits = absurd (omega (arith, e, fits))

stepped : (b q times d r v a : ℕ) → a ≡ times * d + r → b + 2 * r ≡ q * d + v → b + 2 * a ≡ (q + 2 * times) * d + v
stepped b q times d r v a before now =
    let products : (q + 2 * times) * d ≡ q * d + 2 * (times * d) = omega arith in
    omega (arith, products, before, now)

divided : (n : ℕ) (a d : Bits) → Long (suc n) d → 0 < value d → value d ≤ 2 ^ n → IsDivided (suc n) a d
unfolding value left_over times_within
divided n [] d long some fits =
    let nothing = zeros_value d in
    record { long = zeros_long (suc n) d long; small = omega (arith, nothing, some); whole = omega (arith, nothing) }
divided n (b ∷ rest) d long some fits =
    let under = divided n rest d long some fits in
    let small : value (left_over rest d) < value d = under.small in
    let room : digit b + 2 * value (left_over rest d) < 2 ^ suc n = enough b (value (left_over rest d)) (value d) n small fits in
    let wide : Long (suc n) (moved_up b (left_over rest d)) = up_long (suc n) b (left_over rest d) under.long in
    let up : value (moved_up b (left_over rest d)) ≡ digit b + 2 * value (left_over rest d)
    = no_loss (last b (left_over rest d)) (2 ^ suc n) (value (moved_up b (left_over rest d))) (digit b + 2 * value (left_over rest d)) (up_is (suc n) b (left_over rest d) under.long) room in
    let less = less_is (suc n) (moved_up b (left_over rest d)) d (alike_long (suc n) (moved_up b (left_over rest d)) d wide long) in
    let next = lessening (suc n) (moved_up b (left_over rest d)) d (is_less (moved_up b (left_over rest d)) d) less wide long (twice b (value (left_over rest d)) (value d) (value (moved_up b (left_over rest d))) up small) in
    record {
      long = next.long;
      small = next.small;
      whole = stepped (digit b) (digit (not (is_less (moved_up b (left_over rest d)) d))) (value (times_within rest d)) (value d) (value (left_over rest d)) (value (lessened (moved_up b (left_over rest d)) d)) (value rest) under.whole (sym up ∙ next.whole);
    }
  where
    enough : (b : Bool) (r d n : ℕ) → r < d → d ≤ 2 ^ n → digit b + 2 * r < 2 ^ suc n
    enough false r d n small fits = rw (pow-succ' 2 n) (omega (arith, small, fits))
    enough true r d n small fits = rw (pow-succ' 2 n) (omega (arith, small, fits))

    twice : (b : Bool) (r d v : ℕ) → v ≡ digit b + 2 * r → r < d → v < 2 * d
    twice false r d v is small = omega (arith, is, small)
    twice true r d v is small = omega (arith, is, small)

times_long : (n : ℕ) (a d : Bits) → Long n a → Long n (times_within a d)
unfolding times_within
times_long n a d empty = empty
times_long n a d (longer {n = m} {rest = rest} b long) =
    longer (not (is_less (moved_up b (left_over rest d)) d)) (times_long m rest d long)

-- ---- a zero more
end_value : (a : Bits) → value (a ++ false ∷ []) ≡ value a
unfolding value
end_value [] = refl
end_value (b ∷ rest) = let below = end_value rest in omega (arith, below)

end_long : (n : ℕ) (a : Bits) → Long n a → Long (suc n) (a ++ false ∷ [])
end_long n a empty = longer false empty
end_long n a (longer {n = m} {rest = rest} b long) = longer b (end_long m rest long)

ended : (n : ℕ) (a d : Bits) → Long n d → 0 < value d → IsDivided (suc n) a (d ++ false ∷ [])
ended n a d long some =
    let same = end_value d in
    let fits = value_below n d long in
    divided n a (d ++ false ∷ []) (end_long n d long) (omega (arith, same, some)) (omega (arith, same, fits))

pub quotient_long : (n : ℕ) (a d : Bits) → Long n a → Long n (quotient a d)
quotient_long n a d long = times_long n a (d ++ false ∷ []) long

pub quotient_is : (n : ℕ) (a d : Bits) → Long n d → 0 < value d → value (quotient a d) ≡ value a / value d
quotient_is n a d long some =
    let is = ended n a d long some in
    let same = end_value d in
    sym (div-mul-add (value (quotient a d)) (value d) (value (left_over a (d ++ false ∷ []))) (subst (λ k. value (left_over a (d ++ false ∷ [])) < k) same is.small))
    ∙ ap (λ k. k / value d) (sym (is.whole ∙ ap (λ k. value (quotient a d) * k + value (left_over a (d ++ false ∷ []))) same))

nothing_above : (p y l x : ℕ) → x ≡ l + p * y → x < p → l ≡ x
nothing_above p zero l x e fits = omega (arith, e)
nothing_above p (suc y) l x e fits =
    let more : p * suc y ≡ p * y + p = omega arith in absurd (omega (arith, e, more, fits))

left_cut : (n : ℕ) (a d : Bits) → Long n d → 0 < value d → IsCut n 1 (left_over a (d ++ false ∷ []))
left_cut n a d long some =
    cut_at n 1 (suc n) (left_over a (d ++ false ∷ [])) (omega arith) (ended n a d long some).long

remainder_cut : (n : ℕ) (a d : Bits) → Long n d → take n (left_over a (d ++ false ∷ [])) ≡ remainder a d
remainder_cut n a d long = ap (λ k. take k (left_over a (d ++ false ∷ []))) (sym (length_long n d long))

pub remainder_long : (n : ℕ) (a d : Bits) → Long n d → 0 < value d → Long n (remainder a d)
remainder_long n a d long some = subst (λ k. Long n k) (remainder_cut n a d long) (left_cut n a d long some).low

pub remainder_is : (n : ℕ) (a d : Bits) → Long n d → 0 < value d → value (remainder a d) ≡ value a % value d
remainder_is n a d long some =
    let is = ended n a d long some in
    let same = end_value d in
    let small : value (left_over a (d ++ false ∷ [])) < value d = subst (λ k. value (left_over a (d ++ false ∷ [])) < k) same is.small in
    let fits = value_below n d long in
    let cut = left_cut n a d long some in
    let low : value (take n (left_over a (d ++ false ∷ []))) ≡ value (left_over a (d ++ false ∷ []))
    = nothing_above (2 ^ n) (value (drop n (left_over a (d ++ false ∷ [])))) (value (take n (left_over a (d ++ false ∷ [])))) (value (left_over a (d ++ false ∷ []))) cut.value (omega (arith, small, fits)) in
    ap value (sym (remainder_cut n a d long)) ∙ low
    ∙ sym (mod-mul-add (value (quotient a d)) (value d) (value (left_over a (d ++ false ∷ []))) small)
    ∙ ap (λ k. k % value d) (sym (is.whole ∙ ap (λ k. value (quotient a d) * k + value (left_over a (d ++ false ∷ []))) same))

-- ---- with signs
-- a number of that size, below zero where the sign is set
abbrev signed_by : Bool → ℕ → ℤ
signed_by false n = pos n
signed_by true n = neg_ℤ (pos n)

pub data IsSized (sign : Bool) (size : ℕ) (z : ℤ) : Type 0 where
  zero_or_more : sign ≡ false → z ≡ pos size → IsSized sign size z
  less : (k : ℕ) → sign ≡ true → size ≡ suc k → z ≡ negsuc k → IsSized sign size z

lacks : (v p : ℕ) → 0 < v → v < p → (p - v) % p ≡ suc (p - suc v)
lacks v p some fits = mod-eq_of_lt (omega (arith, some, fits)) ∙ omega (arith, some, fits)

sized_by : (w : Width) (a : Bits) → Long (bits_of w) a → IsSigned w a → IsSized (leading a) (value (magnitude a)) (signed w (value a))
sized_by w a long (plain low few e) =
    let same : value (magnitude a) ≡ value a = ap (λ sign. value (negated_if sign a)) low in
    zero_or_more low (e ∙ ap pos (sym same))
sized_by w a long (below high great e) =
    let fits = value_below (bits_of w) a long in
    let some = pow_pos (half w) in
    let same : value (magnitude a) ≡ suc (2 ^ bits_of w - suc (value a))
    = ap (λ sign. value (negated_if sign a)) high ∙ negation_is (bits_of w) a long
    ∙ lacks (value a) (2 ^ bits_of w) (omega (arith, great, some)) fits in
    less (2 ^ bits_of w - suc (value a)) high same e

sized : (w : Width) (a : Bits) → Long (bits_of w) a → IsSized (leading a) (value (magnitude a)) (signed w (value a))
sized w a long = sized_by w a long (signs w a long)

negated_long : (n : ℕ) (sign : Bool) (a : Bits) → Long n a → Long n (negated_if sign a)
negated_long n false a long = long
negated_long n true a long = negation_long n a long

negated_number : (w : Width) (n : ℕ) → n < 2 ^ bits_of w → (2 ^ bits_of w - n) % 2 ^ bits_of w ≡ unsigned w (neg_ℤ (pos n))
negated_number Narrow zero fits = refl
negated_number Narrow (suc n) fits = omega (arith, fits)
negated_number Full zero fits = refl
negated_number Full (suc n) fits = omega (arith, fits)

negated_value : (w : Width) (sign : Bool) (a : Bits) → Long (bits_of w) a → value (negated_if sign a) ≡ unsigned w (signed_by sign (value a))
negated_value w false a long = sym (unsigned_pos w (value a))
negated_value w true a long = negation_is (bits_of w) a long ∙ negated_number w (value a) (value_below (bits_of w) a long)

quotient_by : (s t : Bool) (x y : ℕ) (z u : ℤ) → IsSized s x z → IsSized t y u → int_div z u ≡ signed_by (differ s t) (x / y)
quotient_by s t x y z u (zero_or_more es ez) (zero_or_more et eu) = rw (es, et, ez, eu) refl
quotient_by s t x y z u (zero_or_more es ez) (less k et ey eu) = rw (es, et, ez, eu, ey) refl
quotient_by s t x y z u (less k es ex ez) (zero_or_more et eu) = rw (es, et, ez, eu, ex) refl
quotient_by s t x y z u (less k es ex ez) (less j et ey eu) = rw (es, et, ez, eu, ex, ey) refl

remainder_by : (s t : Bool) (x y : ℕ) (z u : ℤ) → IsSized s x z → IsSized t y u → int_rem z u ≡ signed_by s (x % y)
remainder_by s t x y z u (zero_or_more es ez) (zero_or_more et eu) = rw (es, ez, eu) refl
remainder_by s t x y z u (zero_or_more es ez) (less k et ey eu) = rw (es, ez, eu, ey) refl
remainder_by s t x y z u (less k es ex ez) (zero_or_more et eu) = rw (es, ez, eu, ex) refl
remainder_by s t x y z u (less k es ex ez) (less j et ey eu) = rw (es, ez, eu, ex, ey) refl

size_some : (sign : Bool) (size v : ℕ) (z : ℤ) (w : Width) → z ≡ signed w v → 0 < v → IsSized sign size z → (sign ≡ false → size ≡ v) → 0 < size
size_some sign size v z w e some (zero_or_more es ez) same = let is = same es in omega (arith, is, some)
size_some sign size v z w e some (less k es ex ez) same = omega (arith, ex)

magnitude_some : (w : Width) (a : Bits) → Long (bits_of w) a → 0 < value a → 0 < value (magnitude a)
magnitude_some w a long some =
    size_some (leading a) (value (magnitude a)) (value a) (signed w (value a)) w refl some (sized w a long)
    (λ low. ap (λ sign. value (negated_if sign a)) low)

pub signed_quotient_is : (w : Width) (a b : Bits) → Long (bits_of w) a → Long (bits_of w) b → 0 < value b → value (signed_quotient a b) ≡ unsigned w (int_div (signed w (value a)) (signed w (value b)))
signed_quotient_is w a b la lb some =
    let ma = negated_long (bits_of w) (leading a) a la in
    let mb = negated_long (bits_of w) (leading b) b lb in
    negated_value w (differ (leading a) (leading b)) (quotient (magnitude a) (magnitude b)) (quotient_long (bits_of w) (magnitude a) (magnitude b) ma)
    ∙ ap (λ k. unsigned w (signed_by (differ (leading a) (leading b)) k)) (quotient_is (bits_of w) (magnitude a) (magnitude b) mb (magnitude_some w b lb some))
    ∙ sym (ap (λ z. unsigned w z) (quotient_by (leading a) (leading b) (value (magnitude a)) (value (magnitude b)) (signed w (value a)) (signed w (value b)) (sized w a la) (sized w b lb)))

pub signed_remainder_is : (w : Width) (a b : Bits) → Long (bits_of w) a → Long (bits_of w) b → 0 < value b → value (signed_remainder a b) ≡ unsigned w (int_rem (signed w (value a)) (signed w (value b)))
signed_remainder_is w a b la lb some =
    let mb = negated_long (bits_of w) (leading b) b lb in
    let rest = magnitude_some w b lb some in
    negated_value w (leading a) (remainder (magnitude a) (magnitude b)) (remainder_long (bits_of w) (magnitude a) (magnitude b) mb rest)
    ∙ ap (λ k. unsigned w (signed_by (leading a) k)) (remainder_is (bits_of w) (magnitude a) (magnitude b) mb rest)
    ∙ sym (ap (λ z. unsigned w z) (remainder_by (leading a) (leading b) (value (magnitude a)) (value (magnitude b)) (signed w (value a)) (signed w (value b)) (sized w a la) (sized w b lb)))
