-- Facts that may be known before an instruction: what a place holds, how long a lent region is, and that a byte of the
-- stack was stored.
use Rattle.std.specs.Prelude.{ℕ}
use Rattle.abstract_state.specs.declared.region.Region.{Region}

-- a register, or eight bytes of the stack, counted in eights from its begin
pub data Place : Type 0 where
  Register : ℕ → Place
  Slot : ℕ → Place

-- a number, or an address in a lent region
pub data Kind : Type 0 where
  Number : Kind
  AddressIn : Region → Kind

-- any at all; at least n, or at most n, an address counted from its region's begin; n more bytes of a region stand
-- behind it
pub data Property : Type 0 where
  Any : Property
  AtLeast : ℕ → Property
  AtMost : ℕ → Property
  Behind : Region → ℕ → Property

-- of a kind with a property, or the address of one byte of the context or of the stack
pub data Value : Type 0 where
  Of : Kind → Property → Value
  ContextAt : ℕ → Value
  StackAt : ℕ → Value

-- a place holds such a value; a lent region has at least so many bytes; a byte of the stack was stored
pub data Fact : Type 0 where
  Holds : Place → Value → Fact
  Long : Region → ℕ → Fact
  Stored : ℕ → Fact
