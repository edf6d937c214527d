-- Where a sum is the `or`, and a difference the `xor`.
use Rattle.std.proofs.Common.{◌≡◌, ℕ, ◌+◌, ◌-◌, ◌%◌, ◌^◌, ◌<◌, ◌≤◌, min, max, bit_and, bit_or, bit_xor, sym, subst, ap, ◌∙◌, arith}
use Rattle.std.proofs.lemmas.Nat.{or_lt, or_disjoint}
use Rattle.known_bits.specs.declared.Bits.{Bits}
use Rattle.known_bits.specs.Bits.{bit, Contains, MapsBoth, FixesBoth, KnowsBoth, IsConstant, IsApart, Covers, most}
use Rattle.known_bits.proofs.BitLaws.{bit-lt, bit-zero, bit-and, bit-or, bit-xor, same, same_below, and-fits, or-fits}
use Rattle.known_bits.proofs.Members.{Fit, apart, apart_from, has_value, within_most, constant_is, all_known}

pub sum_is_or : (a b : Bits) (x y : ℕ) → bit_and (most a) (most b) ≡ 0 → Contains a x → Contains b y → (x + y) % 2 ^ 64 ≡ bit_or x y
sum_is_or a b x y h ca cb =
    let none : bit_and x y ≡ 0 = apart_from x y (λ k. omega (arith, within_most a x ca k, within_most b y cb k, apart (most a) (most b) h k)) in
    let e : bit_or x y ≡ x + y = or_disjoint x y none in
    let f : bit_or x y < 2 ^ 64 = or_lt 64 x y ca.fits cb.fits in
    omega arith

sub_bit : (x y : ℕ) → x < 2 → y < 2 → y ≤ x → max ((x + y) % 2) y ≡ x
sub_bit x y a b h = grind arith

sub_apart_bit : (x y : ℕ) → x < 2 → y < 2 → y ≤ x → min ((x + y) % 2) y ≡ 0
sub_apart_bit x y a b h = grind arith

pub difference_is_xor : (x y : ℕ) → x < 2 ^ 64 → ((k : ℕ) → bit y k ≤ bit x k) → (x + (2 ^ 64 - y)) % 2 ^ 64 ≡ bit_xor x y
difference_is_xor x y fx h =
    let none : bit_and (bit_xor x y) y ≡ 0 = apart_from _ _ (λ k. simp bit-xor (sub_apart_bit _ _ (bit-lt x k) (bit-lt y k) (h k))) in
    let back : bit_or (bit_xor x y) y ≡ x = same _ _ (λ k. simp (bit-or, bit-xor) (sub_bit _ _ (bit-lt x k) (bit-lt y k) (h k))) in
    let e : bit_or (bit_xor x y) y ≡ bit_xor x y + y = or_disjoint _ _ none in
    omega arith

known_one : (v m x t : ℕ) → v < 2 → x < 2 → min t v ≡ t → (m ≡ 0 → x ≡ v) → min v m ≡ 0 → m < 2 → t ≤ x
known_one v m x t a b c e d f = grind arith

pub below_known : (a b : Bits) (x y : ℕ) → bit_and (most b) a.value ≡ most b → Contains a x → Contains b y → (k : ℕ) → bit y k ≤ bit x k
below_known a b x y h ca cb k =
    let t : min (bit (most b) k) (bit a.value k) ≡ bit (most b) k = sym (bit-and (most b) a.value k) ∙ ap (λ n. bit n k) h in
    let u : bit (most b) k ≤ bit x k = known_one _ _ _ _ (bit-lt a.value k) (bit-lt x k) t (ca.agrees k) (apart _ _ a.disjoint k) (bit-lt a.unknown k) in
    omega (arith, within_most b y cb k)

-- the tests of `is_apart` and `covers`, bit by bit
pub is_apart_at : (a b : Bits) → IsApart a b → (k : ℕ) → min (max (bit a.value k) (bit a.unknown k)) (max (bit b.value k) (bit b.unknown k)) ≡ 0
is_apart_at a b h k = simp bit-or at (apart (most a) (most b) h k)

pub is_apart_from : (a b : Bits) → Fit a → Fit b → ((k : ℕ) → k < 64 → min (max (bit a.value k) (bit a.unknown k)) (max (bit b.value k) (bit b.unknown k)) ≡ 0) → IsApart a b
is_apart_from a b fa fb h =
    let fit_a : most a < 2 ^ 64 = or-fits _ _ fa.value fa.unknown in
    let zero_fits : 0 < 2 ^ 64 = omega arith in
    same_below _ _ (and-fits _ _ fit_a) zero_fits (λ k below. rw (bit-and, bit-or, bit-or, bit-zero) (h k below))

pub covers_at : (a b : Bits) → Covers a b → (k : ℕ) → min (max (bit b.value k) (bit b.unknown k)) (bit a.value k) ≡ max (bit b.value k) (bit b.unknown k)
covers_at a b h k = simp (bit-and, bit-or) at (ap (λ (n : ℕ). bit n k) h)

pub covers_from : (a b : Bits) → Fit a → Fit b → ((k : ℕ) → k < 64 → min (max (bit b.value k) (bit b.unknown k)) (bit a.value k) ≡ max (bit b.value k) (bit b.unknown k)) → Covers a b
covers_from a b fa fb h =
    let fit_b : most b < 2 ^ 64 = or-fits _ _ fb.value fb.unknown in
    same_below _ _ (and-fits _ _ fit_b) fit_b (λ k below. simp (bit-and, bit-or) (h k below))

-- of constants each bit of the result is the same
pub constants_fix : (a b : Bits) (f : ℕ → ℕ → ℕ) → a.unknown ≡ 0 → b.unknown ≡ 0 → (k : ℕ) → FixesBoth a b k f
constants_fix a b f ea eb k x y x' y' cx cy cx' cy' =
    rw (constant_is a x ea cx, constant_is b y eb cy, constant_is a x' ea cx', constant_is b y' eb cy')

-- bits that contain n and know every bit are n
pub constant_from : (r : Bits) (n : ℕ) → Contains r n → ((k : ℕ) → bit r.unknown k ≡ 0) → IsConstant r n
constant_from r n inside known =
    let none : r.unknown ≡ 0 = all_known r known in
    (sym (constant_is r n none inside), none)

-- what a result of `or` or `xor` says as a sum or a difference
pub sum_maps : (a b r : Bits) → IsApart a b → MapsBoth a b r (λ x y. bit_or x y) → MapsBoth a b r (λ x y. (x + y) % 2 ^ 64)
sum_maps a b r none ors x y left right = subst (λ (n : ℕ). Contains r n) (sym (sum_is_or a b x y none left right)) (ors x y left right)

pub difference_maps : (a b r : Bits) → Covers a b → MapsBoth a b r (λ x y. bit_xor x y) → MapsBoth a b r (λ x y. (x + (2 ^ 64 - y)) % 2 ^ 64)
difference_maps a b r covered xors x y left right =
    subst (λ (n : ℕ). Contains r n) (sym (difference_is_xor x y left.fits (below_known a b x y covered left right))) (xors x y left right)

pub constants_made : (a b r : Bits) (f g : ℕ → ℕ → ℕ) → Fit a → Fit b → a.unknown ≡ 0 → b.unknown ≡ 0 → MapsBoth a b r f → KnowsBoth a b r g → IsConstant r (f a.value b.value)
constants_made a b r f g fa fb ea eb maps knows =
    constant_from r _ (maps _ _ (has_value a fa) (has_value b fb)) (λ k. knows k (constants_fix a b g ea eb k))
