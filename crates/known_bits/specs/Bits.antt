-- What known bits say of a number, bit by bit.
use Rattle.std.specs.Prelude.{◌≡◌, ℕ, ◌<◌, ◌^◌, ◌%◌, ◌/◌, bit_and, bit_or, Option, Some}
use Rattle.known_bits.specs.declared.Bits.{Bits}

-- bit k of n, 0 or 1
unfoldable pub bit : ℕ → ℕ → ℕ
bit n k = n / 2 ^ k % 2

-- x has 64 bits, among them each bit that is known
pub record Contains (b : Bits) (x : ℕ) : Type 0 where
  pub fits : x < 2 ^ 64
  pub agrees : (k : ℕ) → bit b.unknown k ≡ 0 → bit x k ≡ bit b.value k

-- the number n and no other
abbrev pub IsConstant : Bits → ℕ → Type 0
IsConstant b n = (b.value ≡ n) × (b.unknown ≡ 0)

-- the greatest number contained: each bit that may be set
abbrev pub most : Bits → ℕ
most b = bit_or b.value b.unknown

-- no bit may be set in both
abbrev pub IsApart : Bits → Bits → Type 0
IsApart a b = bit_and (most a) (most b) ≡ 0

-- each bit that b may have is a known 1 of a
abbrev pub Covers : Bits → Bits → Type 0
Covers a b = bit_and (most b) a.value ≡ most b

-- r contains f x for each x of a
abbrev pub Maps : Bits → Bits → (ℕ → ℕ) → Type 0
Maps a r f = (x : ℕ) → Contains a x → Contains r (f x)

-- r contains f x y for each x of a and y of b
abbrev pub MapsBoth : Bits → Bits → Bits → (ℕ → ℕ → ℕ) → Type 0
MapsBoth a b r f = (x y : ℕ) → Contains a x → Contains b y → Contains r (f x y)

-- bit k is the same in all the results f x
abbrev pub Fixes : Bits → ℕ → (ℕ → ℕ) → Type 0
Fixes a k f = (x x' : ℕ) → Contains a x → Contains a x' → bit (f x) k ≡ bit (f x') k

-- bit k is the same in all the results f x y
abbrev pub FixesBoth : Bits → Bits → ℕ → (ℕ → ℕ → ℕ) → Type 0
FixesBoth a b k f =
    (x y x' y' : ℕ) → Contains a x → Contains b y → Contains a x' → Contains b y' → bit (f x y) k ≡ bit (f x' y') k

-- r knows each bit that is the same in all the results
abbrev pub Knows : Bits → Bits → (ℕ → ℕ) → Type 0
Knows a r f = (k : ℕ) → Fixes a k f → bit r.unknown k ≡ 0

abbrev pub KnowsBoth : Bits → Bits → Bits → (ℕ → ℕ → ℕ) → Type 0
KnowsBoth a b r f = (k : ℕ) → FixesBoth a b k f → bit r.unknown k ≡ 0

-- x is in the bits, which are there
abbrev pub Within : Option Bits → ℕ → Type 0
Within o x = (b : Bits) × (o ≡ Some b) × Contains b x
