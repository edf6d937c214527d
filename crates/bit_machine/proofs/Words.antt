-- Words of one length, their values, and the bits of a number.
use Rattle.std.proofs.Common.{◌≡◌, ℕ, zero, suc, ◌+◌, ◌*◌, ◌/◌, ◌%◌, ◌^◌, ◌<◌, ◌≤◌, nat_eq, Bool, true, false, [], ◌∷◌, length, refl, sym, ◌∙◌, ap, arith, ⊎_elim}
use Rattle.std.specs.Prelude.{not, ◌||◌}
use Rattle.std.proofs.Math.Nat.{pow-succ'}
use Rattle.std.proofs.lemmas.Bool.{cases_eq}
use Rattle.std.proofs.lemmas.Bool.Decides.{nat_tests}
use Rattle.std.proofs.lemmas.Nat.{mod-pow-add}
use Rattle.bit_machine.specs.Bits.{Bits, digit, value, bits, leading, has_any, zeros}

-- a word of n bits
pub data Long : ℕ → Bits → Type 0 where
  empty : Long 0 []
  longer : {n : ℕ} {rest : Bits} (b : Bool) → Long n rest → Long (suc n) (b ∷ rest)

-- two words of n bits
pub data Alike : ℕ → Bits → Bits → Type 0 where
  none : Alike 0 [] []
  more : {n : ℕ} {left right : Bits} (a b : Bool) → Alike n left right → Alike (suc n) (a ∷ left) (b ∷ right)

pub alike_long : (n : ℕ) (left right : Bits) → Long n left → Long n right → Alike n left right
alike_long n left right empty empty = none
alike_long n left right (longer {n = m} {rest = p} a long) (longer {rest = q} b also) = more a b (alike_long m p q long also)

pub digit_few : (b : Bool) → digit b ≤ 1
digit_few false = omega arith
digit_few true = omega arith

pub value_below : (n : ℕ) (a : Bits) → Long n a → value a < 2 ^ n
unfolding value
value_below n a empty = omega arith
value_below n a (longer {n = m} {rest = rest} b long) = let fits = value_below m rest long in let few = digit_few b in rw (pow-succ' 2 m) (omega (arith, fits, few))

pub length_long : (n : ℕ) (a : Bits) → Long n a → length a ≡ n
length_long n a empty = refl
length_long n a (longer {n = m} {rest = rest} b long) = let below = length_long m rest long in omega (arith, below)

-- ---- the bits of a number
odd_digit : (n : ℕ) → digit (nat_eq (n % 2) 1) ≡ n % 2
odd_digit n =
    ⊎_elim
    (λ (is : n % 2 ≡ 1). let yes : nat_eq (n % 2) 1 ≡ true = grind (arith, nat_tests) in rw yes (sym is))
    (λ (apart : n % 2 ≡ 1 → ⊥). let no : nat_eq (n % 2) 1 ≡ false = grind (arith, nat_tests) in rw no (omega (arith, apart)))
    (cases_eq (n % 2) 1)

pub bits_long : (n a : ℕ) → Long n (bits n a)
unfolding bits
bits_long zero a = empty
bits_long (suc n) a = longer (nat_eq (a % 2) 1) (bits_long n (a / 2))

pub bits_value : (n a : ℕ) → value (bits n a) ≡ a % 2 ^ n
unfolding value bits
bits_value zero a = omega arith
bits_value (suc n) a =
    let rest : value (bits n (a / 2)) ≡ a / 2 % 2 ^ n = bits_value n (a / 2) in
    let here = odd_digit a in
    let parts : a % 2 ^ (n + 1) ≡ (a / 2 ^ 1 % 2 ^ n) * 2 ^ 1 + a % 2 ^ 1 = mod-pow-add a n 1 in
    let same : suc n ≡ n + 1 = omega arith in
    rw (same, parts, here, rest) (omega arith)

-- ---- zeros
pub zeros_long : (n : ℕ) (a : Bits) → Long n a → Long n (zeros a)
unfolding zeros
zeros_long n a empty = empty
zeros_long n a (longer {n = m} {rest = rest} b long) = longer false (zeros_long m rest long)

pub zeros_value : (a : Bits) → value (zeros a) ≡ 0
unfolding zeros value
zeros_value [] = refl
zeros_value (b ∷ rest) = let below = zeros_value rest in omega (arith, below)

any_step : (b : Bool) (v : ℕ) → (b || not (nat_eq v 0)) ≡ not (nat_eq (digit b + 2 * v) 0)
any_step false v = grind (arith, nat_tests)
any_step true v = grind (arith, nat_tests)

pub any_is : (a : Bits) → has_any a ≡ not (nat_eq (value a) 0)
unfolding has_any value
any_is [] = refl
any_is (b ∷ rest) = rw (any_is rest) (any_step b (value rest))

-- ---- the leading bit of n + 1 bits counts 2 ^ n
pub record IsLed (n : ℕ) (a : Bits) : Type 0 where
  pub low : ℕ
  pub below : low < 2 ^ n
  pub whole : value a ≡ low + digit (leading a) * 2 ^ n

twice : (d p r c : ℕ) → d + 2 * (r + c * p) ≡ d + 2 * r + c * (2 * p)
twice d p r c = omega arith

pub led : (n m : ℕ) (a : Bits) → m ≡ suc n → Long m a → IsLed n a
unfolding value leading
led n m a e empty = absurd (omega (arith, e))
led n m a e (longer b empty) =
    let alone : n ≡ 0 = omega (arith, e) in
    rw alone (record { low = 0; below = omega arith; whole = omega arith })
led zero m a e (longer b (longer c long)) = absurd (omega (arith, e))
led (suc k) m a e (longer {n = j} {rest = rest} b (longer {n = i} {rest = others} c long)) =
    let under = led k j rest (omega (arith, e)) (longer c long) in
    let few = digit_few b in
    let small = under.below in
    record {
      low = digit b + 2 * under.low;
      below = rw (pow-succ' 2 k) (omega (arith, few, small));
      whole = rw (pow-succ' 2 k) (ap (λ v. digit b + 2 * v) under.whole ∙ twice (digit b) (2 ^ k) under.low (digit (leading rest)));
    }
