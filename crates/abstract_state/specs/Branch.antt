-- What is known on the edges of a comparison.
use Rattle.std.specs.Prelude.{◌≡◌, ◌≢◌, ℕ, Bool, Option, Some, Ok}
use Rattle.bpf_words.specs.declared.instruction.Width.{Width}
use Rattle.bpf_words.specs.declared.instruction.Operand.{Operand}
use Rattle.bpf_words.specs.declared.instruction.Operand.TheVariants.{Immediate, Source}
use Rattle.bpf_words.specs.declared.instruction.Comparison.{Comparison}
use Rattle.bpf_words.specs.declared.instruction.Comparison.TheVariants as is
use Rattle.semantics.specs.State.{State, register_of, operand_in}
use Rattle.semantics.specs.Value.{cut, holds_of}
use Rattle.abstract_state.specs.declared.branch.Pair.{Pair}
use Rattle.abstract_state.specs.declared.state.AbsReg.TheVariants.{Unset}
use Rattle.abstract_state.specs.declared.state.AbsState.{AbsState}
use Rattle.abstract_state.specs.declared.region.Region.{Region}
use Rattle.abstract_state.specs.Lent.{Lengths}
use Rattle.abstract_state.specs.declared.known.Known.{Known}
use Rattle.abstract_state.specs.declared.known.Known.TheVariants.{Number, Context, Stack, Lent}
use Rattle.abstract_state.specs.Known.{ContainsKnown}
use Rattle.abstract_state.specs.Relation.{EndsFrom}
use Rattle.abstract_state.specs.State.{Span, lengths_of, Contains, WithinState, register_at}

-- both sides are there and contain the numbers
abbrev pub WithinPair : Option Pair → Lengths → ℕ → ℕ → Type 0
WithinPair o lengths m n = (p : Pair) × (o ≡ Some p) × ContainsKnown p.left lengths m × ContainsKnown p.right lengths n

-- the comparisons that two addresses of one region may be in
abbrev pub IsOrder : Comparison → Type 0
IsOrder is.Equal = Unit {0}
IsOrder is.Greater = Unit {0}
IsOrder is.GreaterOrEqual = Unit {0}
IsOrder is.AnyBit = ⊥
IsOrder is.NotEqual = Unit {0}
IsOrder is.SignedGreater = ⊥
IsOrder is.SignedGreaterOrEqual = ⊥
IsOrder is.Less = Unit {0}
IsOrder is.LessOrEqual = Unit {0}
IsOrder is.SignedLess = ⊥
IsOrder is.SignedLessOrEqual = ⊥

-- a right side that is a register holds n
abbrev pub ReadsAs : State → Operand → ℕ → Type 0
ReadsAs s (Immediate value) n = Unit {0}
ReadsAs s (Source register) n = register_of s register ≡ Ok n

-- from each contained state both sides are set, and where the comparison holds, or doesn't, as it is taken, the state
-- is in the edge
abbrev pub Edge : AbsState → Width → Comparison → ℕ → Operand → Bool → Option AbsState → Type 0
Edge a width comparison left right taken edge =
    (span : Span) (s : State) → Contains a (lengths_of span) s
    → (m : ℕ) × ((n : ℕ) × (register_of s left ≡ Ok m) × (operand_in s right ≡ Ok n)
    × (holds_of comparison width (cut width m) (cut width n) ≡ taken → WithinState edge (lengths_of span) s))

-- an address in a lent region, from byte n on and up to the end of a region
abbrev pub LongFrom : Region → ℕ → Known → Type 0
LongFrom region n (Number q) = ⊥
LongFrom region n (Context p) = ⊥
LongFrom region n (Stack p) = ⊥
LongFrom region n (Lent p) = EndsFrom region n p.offset

-- each register that is on neither side is as it was, and those on the sides are set
pub record LeavesSides (left : ℕ) (right : Operand) (a b : AbsState) : Type 0 where
  pub others : (i : ℕ) → i ≢ left → (right ≡ Source i → ⊥) → register_at b.registers i ≡ register_at a.registers i
  pub left_set : register_at b.registers left ≢ Unset
  pub right_set : (i : ℕ) → right ≡ Source i → register_at b.registers i ≢ Unset
