-- What checked arithmetic of 64 bits with sign gives is a number where it fits.
use Rattle.std.proofs.Common.{◌≡◌, ℕ, ◌^◌, ◌<◌, ◌≤◌, ℤ, pos, negsuc, Option, Some, None, if◌then◌else◌, nat_lt, refl, sym, ap, ◌∙◌, arith}
use Rattle.std.specs.Prelude.{FitsSigned, Result, Ok, Err}
use Rattle.std.specs.Option.{SomeIff}
use Rattle.std.specs.Result.{OkIff, result_ok}
use Rattle.std.specs.Int.{w64}
use Rattle.std.proofs.lemmas.Bool.{lt-ltb, le-ltb}
use Rattle.refusal_needs.specs.Wanted.{in_i64}

below : {A : Type 0} (n : ℕ) (a : A) → n < 2 ^ 63 → (if nat_lt n (2 ^ 63) then Some a else None) ≡ Some a
below n a h = rw (lt-ltb n (2 ^ 63) h) refl

above : {A : Type 0} (n : ℕ) (a : A) → 2 ^ 63 ≤ n → (if nat_lt n (2 ^ 63) then Some a else None) ≡ None
above n a h = rw (le-ltb n (2 ^ 63) h) refl

beyond : (n : ℕ) → ¬ (n < 2 ^ 63) → 2 ^ 63 ≤ n
beyond n h = grind arith

there : (z : ℤ) → FitsSigned w64 z → in_i64 z ≡ Some z
unfolding in_i64
there (pos n) h = below n (pos n) h.sfits
there (negsuc n) h = below n (negsuc n) h.sfits

nowhere : (z : ℤ) → ¬ (FitsSigned w64 z) → in_i64 z ≡ None
unfolding in_i64
nowhere (pos n) h = above n (pos n) (beyond n (λ less. h (record { sfits = less })))
nowhere (negsuc n) h = above n (negsuc n) (beyond n (λ less. h (record { sfits = less })))

pub some_is : (o : Option ℤ) (z : ℤ) → SomeIff o (FitsSigned w64 z) z → o ≡ in_i64 z
some_is None z h = sym (nowhere z h)
some_is (Some x) z h = ap Some h.1 ∙ sym (there z h.0)

pub ok_is : {E : Type 0} (r : Result ℤ E) (z : ℤ) → OkIff r (FitsSigned w64 z) z → result_ok r ≡ in_i64 z
ok_is (Err e) z h = sym (nowhere z h)
ok_is (Ok x) z h = ap Some h.1 ∙ sym (there z h.0)
