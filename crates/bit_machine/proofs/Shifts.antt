-- Bits that move are products and quotients by powers of two.
use Rattle.std.proofs.Common.{◌≡◌, ℕ, zero, suc, ◌+◌, ◌-◌, ◌*◌, ◌/◌, ◌%◌, ◌^◌, ◌<◌, Bool, true, false, [], ◌∷◌, refl, sym, ◌∙◌, ap, subst, arith}
use Rattle.std.specs.Prelude.{if◌then◌else◌}
use Rattle.std.proofs.Math.Nat.{pow-succ', mod-eq_of_lt, div-div-eq-div-mul, zero-mod, add-mod-mod}
use Rattle.std.proofs.lemmas.Bool.{false≢true}
use Rattle.std.proofs.lemmas.Nat.{mod-mul-add, mul-mod_first}
use Rattle.bit_machine.specs.Bits.{Bits, digit, value, leading, moved_up, shifted_left, moved_down, shifted_right, shifted_with_sign, zeros, product}
use Rattle.bit_machine.proofs.Words.{Long, empty, longer, alike_long, value_below, digit_few, zeros_long, zeros_value}
use Rattle.bit_machine.proofs.Sums.{ripple_value, ripple_long}

-- ---- up
pub up_long : (n : ℕ) (first : Bool) (a : Bits) → Long n a → Long n (moved_up first a)
unfolding moved_up
up_long n first a empty = empty
up_long n first a (longer {n = m} {rest = rest} b long) = longer first (up_long m b rest long)

-- the bit that leaves the word
pub last : Bool → Bits → Bool
last first [] = first
last first (b ∷ rest) = last b rest

pub up_is : (n : ℕ) (first : Bool) (a : Bits) → Long n a → digit (last first a) * 2 ^ n + value (moved_up first a) ≡ digit first + 2 * value a
unfolding last value moved_up
up_is n first a empty = omega arith
up_is n first a (longer {n = m} {rest = rest} b long) =
    let below : digit (last b rest) * 2 ^ m + value (moved_up b rest) ≡ digit b + 2 * value rest = up_is m b rest long in
    rw (pow-succ' 2 m) (omega (arith, below))

up_value : (n : ℕ) (a : Bits) → Long n a → value (moved_up false a) ≡ 2 * value a % 2 ^ n
up_value n a long =
    let fits = value_below n (moved_up false a) (up_long n false a long) in
    let is : digit (last false a) * 2 ^ n + value (moved_up false a) ≡ 2 * value a = up_is n false a long ∙ omega arith in
    sym (mod-mul-add (digit (last false a)) (2 ^ n) (value (moved_up false a)) fits) ∙ ap (λ k. k % 2 ^ n) is

twice : (v p : ℕ) → 2 * v * p ≡ v * (2 * p)
twice v p = omega arith

pub left_value : (n count : ℕ) (a : Bits) → Long n a → value (shifted_left count a) ≡ value a * 2 ^ count % 2 ^ n
unfolding shifted_left
left_value n zero a long =
    let fits = value_below n a long in
    let one : value a * 1 ≡ value a = omega arith in
    sym (mod-eq_of_lt fits) ∙ ap (λ k. k % 2 ^ n) (sym one)
left_value n (suc count) a long =
    left_value n count (moved_up false a) (up_long n false a long)
    ∙ rw (up_value n a long) (mul-mod_first (2 * value a) (2 ^ count) (2 ^ n) ∙ ap (λ k. k % 2 ^ n) (twice (value a) (2 ^ count) ∙ sym (ap (λ k. value a * k) (pow-succ' 2 count))))

-- ---- down, with a zero
down_value : (a : Bits) → value (moved_down false a) ≡ value a / 2
unfolding value moved_down
down_value [] = refl
down_value (false ∷ []) = refl
down_value (true ∷ []) = refl
down_value (b ∷ c ∷ rest) =
    let below : value (moved_down false (c ∷ rest)) ≡ (digit c + 2 * value rest) / 2 = down_value (c ∷ rest) in
    let few = digit_few b in
    let less = digit_few c in
    omega (arith, below, few, less)

pub right_value : (count : ℕ) (a : Bits) → value (shifted_right count a) ≡ value a / 2 ^ count
unfolding shifted_right
right_value zero a = omega arith
right_value (suc count) a =
    right_value count (moved_down false a)
    ∙ rw (down_value a) (div-div-eq-div-mul (value a) 2 (2 ^ count) ∙ sym (ap (λ k. value a / k) (pow-succ' 2 count)))

-- ---- down, with the sign
down_long : (n : ℕ) (last : Bool) (a : Bits) → Long n a → Long n (moved_down last a)
unfolding moved_down
down_long n last a empty = empty
down_long n last a (longer b empty) = longer last empty
down_long n last a (longer b (longer {n = k} {rest = rest} c long)) =
    longer c (down_long (suc k) last (c ∷ rest) (longer c long))

down_set : (m : ℕ) (a : Bits) → Long m a → value (moved_down true a) ≡ (value a + 2 ^ m) / 2
unfolding value moved_down
down_set m a empty = omega arith
down_set m a (longer b empty) = let few = digit_few b in omega (arith, few)
down_set m a (longer b (longer {n = k} {rest = rest} c long)) =
    let below : value (moved_down true (c ∷ rest)) ≡ (digit c + 2 * value rest + 2 ^ suc k) / 2
    = down_set (suc k) (c ∷ rest) (longer c long) in
    let few = digit_few b in
    let less = digit_few c in
    let half = pow-succ' 2 k in
    rw (pow-succ' 2 (suc k)) (omega (arith, below, few, less, half))

comes_in : (last b : Bool) (rest : Bits) → leading (moved_down last (b ∷ rest)) ≡ last
unfolding leading moved_down
comes_in last b [] = refl
comes_in last b (c ∷ []) = refl
comes_in last b (c ∷ d ∷ rest) = comes_in last c (d ∷ rest)

stays_clear : (a : Bits) → leading (moved_down false a) ≡ false
unfolding leading moved_down
stays_clear [] = refl
stays_clear (b ∷ rest) = comes_in false b rest

stays_set : (a : Bits) → leading a ≡ true → leading (moved_down true a) ≡ true
unfolding leading moved_down
stays_set [] high = absurd (false≢true high)
stays_set (b ∷ rest) high = comes_in true b rest

pub plain_shift : (count : ℕ) (a : Bits) → leading a ≡ false → shifted_with_sign count a ≡ shifted_right count a
unfolding shifted_with_sign shifted_right
plain_shift zero a low = refl
plain_shift (suc count) a low =
    ap (λ sign. shifted_with_sign count (moved_down sign a)) low ∙ plain_shift count (moved_down false a) (stays_clear a)

halved : (p v w : ℕ) → v < 2 * p → w ≡ (v + 2 * p) / 2 → 2 * p - suc w ≡ (2 * p - suc v) / 2
halved p v w fits is = omega (arith, fits, is)

lacking : (n : ℕ) (a : Bits) → Long n a → 2 ^ n - suc (value (moved_down true a)) ≡ (2 ^ n - suc (value a)) / 2
lacking n a empty = let few = down_set 0 [] empty in omega (arith, few)
lacking n a (longer {n = k} {rest = rest} b long) =
    let fits = value_below (suc k) (b ∷ rest) (longer b long) in
    let is = down_set (suc k) (b ∷ rest) (longer b long) in
    let whole = pow-succ' 2 k in
    subst (λ p. p - suc (value (moved_down true (b ∷ rest))) ≡ (p - suc (value (b ∷ rest))) / 2) (sym whole)
    (halved (2 ^ k) (value (b ∷ rest)) (value (moved_down true (b ∷ rest)))
    (subst (λ p. value (b ∷ rest) < p) whole fits)
    (is ∙ ap (λ p. (value (b ∷ rest) + p) / 2) whole))

-- of a word whose sign is set, what it lacks is shifted
pub set_shift : (n count : ℕ) (a : Bits) → Long n a → leading a ≡ true → value (shifted_with_sign count a) + suc ((2 ^ n - suc (value a)) / 2 ^ count) ≡ 2 ^ n
unfolding shifted_with_sign
set_shift n zero a long high = let fits = value_below n a long in omega (arith, fits)
set_shift n (suc count) a long high =
    let next = set_shift n count (moved_down true a) (down_long n true a long) (stays_set a high) in
    let same : (2 ^ n - suc (value (moved_down true a))) / 2 ^ count ≡ (2 ^ n - suc (value a)) / 2 ^ suc count
    = ap (λ k. k / 2 ^ count) (lacking n a long)
    ∙ div-div-eq-div-mul (2 ^ n - suc (value a)) 2 (2 ^ count)
    ∙ sym (ap (λ k. (2 ^ n - suc (value a)) / k) (pow-succ' 2 count)) in
    subst (λ sign. value (shifted_with_sign count (moved_down sign a)) + suc ((2 ^ n - suc (value a)) / 2 ^ suc count) ≡ 2 ^ n) (sym high)
    (subst (λ k. value (shifted_with_sign count (moved_down true a)) + suc k ≡ 2 ^ n) same next)

-- ---- products
times_long : (n : ℕ) (b : Bool) (a : Bits) → Long n a → Long n (if b then a else zeros a)
times_long n true a long = long
times_long n false a long = zeros_long n a long

times_value : (n : ℕ) (b : Bool) (a : Bits) → Long n a → value (if b then a else zeros a) ≡ digit b * value a
times_value n true a long = omega arith
times_value n false a long = let none_set = zeros_value a in omega (arith, none_set)

product_long : (n : ℕ) (a b : Bits) → Long n a → Long n (product a b)
unfolding product
product_long n a [] long = zeros_long n a long
product_long n a (b ∷ rest) long =
    ripple_long n false (if b then a else zeros a) (product (moved_up false a) rest)
    (alike_long n (if b then a else zeros a) (product (moved_up false a) rest) (times_long n b a long) (product_long n (moved_up false a) rest (up_long n false a long)))

added : (x y m : ℕ) → (x + y % m + 0) % m ≡ (x + y) % m
added x y m = let same : x + y % m + 0 ≡ x + y % m = omega arith in ap (λ k. k % m) same ∙ add-mod-mod x y m

spread : (d v r : ℕ) → d * v + 2 * v * r ≡ v * (d + 2 * r)
spread d v r = omega arith

pub product_value : (n : ℕ) (a b : Bits) → Long n a → value (product a b) ≡ value a * value b % 2 ^ n
unfolding product value
product_value n a [] long = zeros_value a ∙ (let nothing : value a * 0 ≡ 0 = omega arith in sym (ap (λ k. k % 2 ^ n) nothing ∙ zero-mod (2 ^ n)))
product_value n a (b ∷ rest) long =
    let first = if b then a else zeros a in
    let others = product (moved_up false a) rest in
    let up = up_long n false a long in
    let alike = alike_long n first others (times_long n b a long) (product_long n (moved_up false a) rest up) in
    let below : value others ≡ value (moved_up false a) * value rest % 2 ^ n = product_value n (moved_up false a) rest up in
    let moved : value others ≡ 2 * value a * value rest % 2 ^ n = below ∙ rw (up_value n a long) (mul-mod_first (2 * value a) (value rest) (2 ^ n)) in
    ripple_value n false first others alike
    ∙ rw (times_value n b a long, moved) (added (digit b * value a) (2 * value a * value rest) (2 ^ n) ∙ ap (λ k. k % 2 ^ n) (spread (digit b) (value a) (value rest)))
