-- What is left of what was known once the sides of a comparison have told their copies: kinds stay, no interval is
-- wider, and no lent region is known as shorter.
use Rattle.std.specs.Prelude.{◌≡◌, ℕ, ◌<◌, ◌≤◌, Option, Some, None}
use Rattle.bpf_words.specs.declared.instruction.Operand.{Operand}
use Rattle.intervals.specs.Interval.{Interval}
use Rattle.abstract_state.specs.declared.region.Region.{Region}
use Rattle.abstract_state.specs.declared.state.AbsState.{AbsState}
use Rattle.abstract_state.specs.Addresses.{Content, ANumber, InContext, InStack, InRegion}
use Rattle.abstract_state.specs.Branch.{LeavesSides}
use Rattle.abstract_state.specs.Guard.{LengthensMemory}
use Rattle.abstract_state.specs.Kinds.{KeepsKind}
use Rattle.abstract_state.specs.State.{register_at}
use Rattle.abstract_state.specs.Stacks.{Eight, Marked, Whole}
use Rattle.abstract_state.specs.Situation.{Situation, IsSituation, least_at, situation_of}

abbrev pub IsPart : Interval → Interval → Type 0
IsPart part whole = (whole.low ≤ part.low) × (part.high ≤ whole.high)

abbrev pub LearnsContent : Content → Content → Type 0
LearnsContent (ANumber a) (ANumber b) = IsPart b.range a.range
LearnsContent (InContext p) (InContext q) = p ≡ q
LearnsContent (InStack p) (InStack q) = p ≡ q
LearnsContent (InRegion r a) (InRegion s b) = (r ≡ s) × IsPart b.range a.range
LearnsContent x y = ⊥

abbrev pub LearnsRegister : Option Content → Option Content → Type 0
LearnsRegister None b = b ≡ None
LearnsRegister (Some x) None = ⊥
LearnsRegister (Some x) (Some y) = LearnsContent x y

abbrev pub LearnsEight : Eight → Eight → Type 0
LearnsEight (Marked marks) b = b ≡ Marked marks
LearnsEight (Whole x) (Marked marks) = ⊥
LearnsEight (Whole x) (Whole y) = LearnsContent x y

pub record LearnsAll (a b : Situation) : Type 0 where
  pub registers : (i : ℕ) → LearnsRegister (a.registers i) (b.registers i)
  pub slots : (i : ℕ) → LearnsEight (a.slots i) (b.slots i)
  pub least : (region : Region) → least_at a.least region ≤ least_at b.least region

-- the same of states of the code
abbrev pub Learns : AbsState → AbsState → Type 0
Learns a b = (t : Situation) × IsSituation b t × LearnsAll (situation_of a) t

abbrev pub LearnsFrom : Option AbsState → AbsState → Type 0
LearnsFrom edge b = (a : AbsState) × (edge ≡ Some a) × Learns a b

-- past a comparison: first of its sides, then of their copies
abbrev pub LearnsSides : ℕ → Operand → AbsState → AbsState → Type 0
LearnsSides left right a b = (e : AbsState) × LeavesSides left right a e × LengthensMemory a e × Learns e b

-- each register of a keeps its kind in b
abbrev pub KeepsKinds : AbsState → AbsState → Type 0
KeepsKinds a b = (i : ℕ) → i < 11 → KeepsKind (register_at a.registers i) (register_at b.registers i)
