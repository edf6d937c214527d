-- Which facts an instruction leaves as they are, and which loads of a lent region are let through.
use Rattle.std.specs.Prelude.{◌≡◌, ◌≢◌, ℕ, ◌+◌, ◌^◌, ◌≤◌}
use Rattle.bpf_words.specs.declared.instruction.Insn.{Insn}
use Rattle.bpf_words.specs.declared.instruction.Insn.TheVariants.{Compute, Negate, Extend, Convert, Jump, JumpLong}
use Rattle.bpf_words.specs.declared.instruction.Insn.TheVariants.{Branch, Load, LoadSigned, Store, LoadWide, Exit}
use Rattle.abstract_state.specs.declared.region.Region.{Region}
use Rattle.guarded_rules.specs.Facts.{Register, Slot, Property, AtLeast, AtMost, Behind, Fact, Holds, Long}
use Rattle.guarded_rules.specs.Facts.{Stored}

-- a fact that isn't of a register
abbrev pub IsElsewhere : ℕ → Fact → Type 0
IsElsewhere d (Holds (Register r) v) = r ≢ d
IsElsewhere d (Holds (Slot i) v) = Unit {0}
IsElsewhere d (Long region n) = Unit {0}
IsElsewhere d (Stored at) = Unit {0}

-- a fact that isn't of the stack
abbrev pub IsOffStack : Fact → Type 0
IsOffStack (Holds (Register r) v) = Unit {0}
IsOffStack (Holds (Slot i) v) = ⊥
IsOffStack (Long region n) = Unit {0}
IsOffStack (Stored at) = ⊥

-- an instruction doesn't write what the fact is of
abbrev pub Spares : Insn → Fact → Type 0
Spares (Compute width operation d operand) f = IsElsewhere d f
Spares (Negate width d) f = IsElsewhere d f
Spares (Extend extension d source) f = IsElsewhere d f
Spares (Convert conversion bits d) f = IsElsewhere d f
Spares (Jump distance) f = Unit {0}
Spares (JumpLong distance) f = Unit {0}
Spares (Branch width comparison left right distance) f = Unit {0}
Spares (Load size d base offset) f = IsElsewhere d f
Spares (LoadSigned size d base offset) f = IsElsewhere d f
Spares (Store size base offset value) f = IsOffStack f
Spares (LoadWide d value) f = IsElsewhere d f
Spares Exit f = Unit {0}

-- count bytes at an offset from an address lie in its region: by what stands behind the address, or by how long the
-- region is; an offset below 0 is what it lacks to 2^64
pub data Reaches (region : Region) (Address : Property → Type 0) (IsLong : ℕ → Type 0) (offset count : ℕ) : Type 0 where
  ahead_by_tail : (n : ℕ) → offset ≤ 2 ^ 16 → Address (Behind region n) → offset + count ≤ n
      → Reaches region Address IsLong offset count
  ahead_by_length : (m n : ℕ) → offset ≤ 2 ^ 16 → Address (AtMost m) → IsLong n → m + offset + count ≤ n
      → Reaches region Address IsLong offset count
  back_by_tail : (back n : ℕ) → offset + back ≡ 2 ^ 64 → Address (AtLeast back) → Address (Behind region n)
      → count ≤ n + back → Reaches region Address IsLong offset count
  back_by_length : (back m n : ℕ) → offset + back ≡ 2 ^ 64 → Address (AtLeast back) → Address (AtMost m) → IsLong n
      → m + count ≤ n + back → Reaches region Address IsLong offset count
