-- What is known on an edge of a comparison, once its sides have told their copies.
use Rattle.std.specs.Prelude.{◌≡◌, ◌≢◌, ◌≤◌, ℕ, Bool, false, Option, Some, None, Ok, IfSome}
use Rattle.std.specs.declared.boxed.Box.{Box}
use Rattle.std.specs.declared.alloc.Global.{Global}
use Rattle.bpf_words.specs.declared.instruction.Width.{Width}
use Rattle.bpf_words.specs.declared.instruction.Width.TheVariants.{Full}
use Rattle.bpf_words.specs.declared.instruction.Comparison.{Comparison}
use Rattle.bpf_words.specs.declared.instruction.Comparison.TheVariants.{Greater}
use Rattle.bpf_words.specs.declared.instruction.Operand.{Operand}
use Rattle.bpf_words.specs.declared.instruction.Operand.TheVariants.{Source}
use Rattle.abstract_state.specs.declared.address.LentAddress.{LentAddress}
use Rattle.abstract_state.specs.declared.known.Known.TheVariants.{Lent}
use Rattle.abstract_state.specs.declared.state.AbsReg.TheVariants.{Set}
use Rattle.abstract_state.specs.declared.state.AbsState.{AbsState}
use Rattle.abstract_state.specs.Branch.{LeavesSides}
use Rattle.abstract_state.specs.Guard.{LengthensMemory}
use Rattle.abstract_state.specs.Kinds.{HasNumberAt, HasNumberIn}
use Rattle.abstract_state.specs.Lent.{bound_of, tail_of}
use Rattle.abstract_state.specs.State.{register_at}
use Rattle.abstract_state.specs.Situation.{Situation, situation_of}
use Rattle.abstract_state.specs.Edges.{edge}
use Rattle.value_marks.specs.Copies.{kept}
use Rattle.tracked_state.specs.declared.state.TrackedState.{TrackedState}
use Rattle.tracked_state.specs.Learning.{LearnsSides, KeepsKinds}
use Rattle.tracked_state.specs.Rules.{told_edge}
use Rattle.tracked_state.specs.Tracked.{IsTrackedIn, marking_in}
use Rattle.tracked_state.specs.Tracking.{TrackedEdge}

-- the state in a box
abbrev pub unboxed : Option (Box AbsState Global) → Option AbsState
unboxed None = None
unboxed (Some boxed) = Some boxed.value

-- from what was known before, along the edge where the comparison holds, or along the other
pub record GoesAlong (a : TrackedState) (width : Width) (comparison : Comparison) (left : ℕ) (right : Operand)
    (taken : Bool) (o : Option TrackedState) : Type 0 where
  pub contains : TrackedEdge a width comparison left right taken o
  pub copies : IfSome o (λ b. kept b.copies ≡ kept a.copies)
  pub learns : IfSome o (λ b. LearnsSides left right a.state b.state)
  pub kinds : HasNumberAt a.state left → HasNumberIn a.state right → IfSome o (λ b. KeepsKinds a.state b.state)
  -- where copies aren't followed no other place learns
  pub others : kept a.copies ≡ None → IfSome o (λ b. LeavesSides left right a.state b.state)
  pub memory : kept a.copies ≡ None → IfSome o (λ b. LengthensMemory a.state b.state)
  -- not past an end, a region is as long as the address before it says
  pub guards : taken ≡ false → (r t : ℕ) (p q : LentAddress) → right ≡ Source r → left ≢ r → width ≡ Full
      → comparison ≡ Greater → register_at a.state.registers left ≡ Set (Lent p)
      → register_at a.state.registers r ≡ Set (Lent q) → p.region ≡ q.region → tail_of q.offset.tails p.region ≡ Some t
      → IfSome o (λ b. p.offset.range.low ≤ bound_of b.state.bounds p.region)
  pub rule : (was : Option Situation) × (edge width comparison left right taken (situation_of a.state) ≡ Ok was)
      × IsTrackedIn o (told_edge left right (marking_in a) was)
