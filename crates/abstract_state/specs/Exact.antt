-- What is known of a value, to the last detail of its interval, its known bits and its tail for one lent region.
use Rattle.std.specs.Prelude.{◌≡◌, ℕ, ◌-◌, ◌/◌, ◌^◌, ◌<◌, ◌≤◌, ◌↔◌, nat_le, if◌then◌else◌, Option, Some, None}
use Rattle.bpf_words.specs.declared.instruction.Arithmetic.{Arithmetic}
use Rattle.bpf_words.specs.declared.instruction.Arithmetic.TheVariants as is
use Rattle.known_bits.specs.declared.Bits.{Bits}
use Rattle.known_bits.specs.Bits.{bit}
use Rattle.abstract_state.specs.Quantity.{InBits}
use Rattle.abstract_state.specs.declared.quantity.Quantity.{Quantity}
use Rattle.abstract_state.specs.declared.address.LentAddress.{LentAddress}
use Rattle.abstract_state.specs.declared.region.Region.{Region}
use Rattle.abstract_state.specs.Lent.{tail_of}
use Rattle.abstract_state.specs.declared.known.Known.{Known}
use Rattle.abstract_state.specs.declared.known.Known.TheVariants.{Number, Context, Stack, Lent}
use Rattle.abstract_state.specs.Known.{IsNumber}
use Rattle.abstract_state.specs.declared.state.AbsReg.{AbsReg}
use Rattle.abstract_state.specs.declared.state.AbsReg.TheVariants.{Unset, Set}

-- a tail after n was added
abbrev pub tail_after : Option ℕ → ℕ → Option ℕ
tail_after None n = None
tail_after (Some t) n = if nat_le n t then Some (t - n) else None

-- known are the high bits that low and high have in common, and no other bit
abbrev pub HasBits : Bits → ℕ → ℕ → Type 0
HasBits b low high = InBits b low × ((k : ℕ) → (bit b.unknown k ≡ 0) ↔ (low / 2 ^ k ≡ high / 2 ^ k))

-- a quantity with this interval and its bits, and this tail for the region
abbrev pub IsIn : Region → Quantity → ℕ → ℕ → Option ℕ → Type 0
IsIn region q low high tail =
    (q.range.low ≡ low) × (q.range.high ≡ high) × (tail_of q.tails region ≡ tail) × HasBits q.bits low high

-- the one number
abbrev pub IsConstant : Region → Quantity → ℕ → Type 0
IsConstant region q n = IsIn region q n n None

-- the operations of 64 bits that make a constant of two, a sum that of two below 2^62
abbrev pub Folds : Arithmetic → ℕ → ℕ → Type 0
Folds is.Add m n = (m < 2 ^ 62) × (n < 2 ^ 62)
Folds is.Sub m n = ⊥
Folds is.Mul m n = ⊥
Folds is.Div m n = ⊥
Folds is.Or m n = Unit {0}
Folds is.And m n = Unit {0}
Folds is.Lsh m n = ⊥
Folds is.Rsh m n = ⊥
Folds is.Mod m n = ⊥
Folds is.Xor m n = Unit {0}
Folds is.Mov m n = ⊥
Folds is.Arsh m n = ⊥
Folds is.SignedDiv m n = ⊥
Folds is.SignedMod m n = ⊥

-- a number with this interval and tail
abbrev pub IsNumberIn : Region → ℕ → ℕ → Option ℕ → Known → Type 0
IsNumberIn region low high tail (Number q) = IsIn region q low high tail
IsNumberIn region low high tail (Context p) = ⊥
IsNumberIn region low high tail (Stack p) = ⊥
IsNumberIn region low high tail (Lent p) = ⊥

-- an address in the region, whose distance from the region's begin has this interval and tail
abbrev pub IsLentIn : Region → ℕ → ℕ → Option ℕ → Known → Type 0
IsLentIn region low high tail (Number q) = ⊥
IsLentIn region low high tail (Context p) = ⊥
IsLentIn region low high tail (Stack p) = ⊥
IsLentIn region low high tail (Lent p) = (p.region ≡ region) × IsIn region p.offset low high tail

-- no less is known: the interval is no wider, each known bit stays known, as the same, and the tails are the same
pub record Refines (a b : Quantity) : Type 0 where
  pub low : a.range.low ≤ b.range.low
  pub high : b.range.high ≤ a.range.high
  pub bits : (k : ℕ) → bit a.bits.unknown k ≡ 0 → (bit b.bits.unknown k ≡ 0) × (bit b.bits.value k ≡ bit a.bits.value k)
  pub tails : b.tails ≡ a.tails

abbrev pub IsNoLess : Known → Known → Type 0
IsNoLess (Number q) k = (r : Quantity) × (k ≡ Number r) × Refines q r
IsNoLess (Context p) k = k ≡ Context p
IsNoLess (Stack p) k = k ≡ Stack p
IsNoLess (Lent p) k = (r : LentAddress) × (k ≡ Lent r) × (r.region ≡ p.region) × Refines p.offset r.offset

-- what may be known of a value
pub data Fact : Type 0 where
  LentIn : Region → ℕ → ℕ → Option ℕ → Fact
  NumberIn : Region → ℕ → ℕ → Option ℕ → Fact
  AnyNumber : Fact
  Exactly : Known → Fact
  NoLess : Known → Fact

abbrev pub Says : Fact → Known → Type 0
Says (LentIn region low high tail) k = IsLentIn region low high tail k
Says (NumberIn region low high tail) k = IsNumberIn region low high tail k
Says AnyNumber k = IsNumber k
Says (Exactly known) k = k ≡ known
Says (NoLess known) k = IsNoLess known k

abbrev pub Holds : Fact → AbsReg → Type 0
Holds fact Unset = ⊥
Holds fact (Set k) = Says fact k
