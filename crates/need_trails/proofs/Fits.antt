-- What checked arithmetic of 64 bits gives is a number where it fits.
use Rattle.std.proofs.Common.{◌≡◌, ℕ, ◌^◌, ◌<◌, ◌≤◌, ◌≤ℤ◌, ◌<ℤ◌, ℤ, pos, negsuc, Option, Some, None, if◌then◌else◌, nat_lt, refl, sym, ap, ◌∙◌, arith}
use Rattle.std.specs.Prelude.{FitsSigned, unsigned_abs}
use Rattle.std.specs.Option.{SomeIff}
use Rattle.std.specs.Int.{FitsUnsigned, w64}
use Rattle.std.proofs.lemmas.Bool.{lt-ltb, le-ltb}
use Rattle.std.proofs.lemmas.Int.{ints}
use Rattle.refusal_needs.specs.Wanted.{in_i64}
use Rattle.need_trails.specs.Origins.{in_u64}

below : {A : Type 0} (n m : ℕ) (a : A) → n < m → (if nat_lt n m then Some a else None) ≡ Some a
below n m a h = rw (lt-ltb n m h) refl

above : {A : Type 0} (n m : ℕ) (a : A) → m ≤ n → (if nat_lt n m then Some a else None) ≡ None
above n m a h = rw (le-ltb n m h) refl

beyond : (n m : ℕ) → ¬ (n < m) → m ≤ n
beyond n m h = grind arith

there : (z : ℤ) → FitsSigned w64 z → in_i64 z ≡ Some z
unfolding in_i64
there (pos n) h = below n (2 ^ 63) (pos n) h.sfits
there (negsuc n) h = below n (2 ^ 63) (negsuc n) h.sfits

nowhere : (z : ℤ) → ¬ (FitsSigned w64 z) → in_i64 z ≡ None
unfolding in_i64
nowhere (pos n) h = above n (2 ^ 63) (pos n) (beyond n (2 ^ 63) (λ less. h (record { sfits = less })))
nowhere (negsuc n) h = above n (2 ^ 63) (negsuc n) (beyond n (2 ^ 63) (λ less. h (record { sfits = less })))

pub signed_is : (o : Option ℤ) (z : ℤ) → SomeIff o (FitsSigned w64 z) z → o ≡ in_i64 z
signed_is None z h = sym (nowhere z h)
signed_is (Some x) z h = ap Some h.1 ∙ sym (there z h.0)

-- ---- without sign
number_there : (z : ℤ) → FitsUnsigned w64 z → in_u64 z ≡ Some (unsigned_abs z)
unfolding in_u64
number_there (pos n) h =
    let high : pos n <ℤ pos (2 ^ 64) = h.1 in
    let less : n < 2 ^ 64 = omega (arith, ints) in
    below n (2 ^ 64) n less
number_there (negsuc n) h =
    let low : pos 0 ≤ℤ negsuc n = h.0 in
    absurd (omega (arith, ints))

number_nowhere : (z : ℤ) → ¬ (FitsUnsigned w64 z) → in_u64 z ≡ None
unfolding in_u64
number_nowhere (pos n) h =
    let no : ¬ (n < 2 ^ 64) = λ less. h (omega (arith, ints, less), omega (arith, ints, less)) in
    above n (2 ^ 64) n (beyond n (2 ^ 64) no)
number_nowhere (negsuc n) h = refl

pub number_is : (o : Option ℕ) (z : ℤ) → SomeIff o (FitsUnsigned w64 z) (unsigned_abs z) → o ≡ in_u64 z
number_is None z h = sym (number_nowhere z h)
number_is (Some x) z h = ap Some h.1 ∙ sym (number_there z h.0)
