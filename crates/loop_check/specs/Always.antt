-- Labels that hold whatever the states are, of those that the rules allow behind an instruction.
use Rattle.std.specs.Prelude.{◌≡◌, ℕ, ℤ, pos, ◌+◌, ◌+ℤ◌, List, Option, Some, Ok, IsOk, slice_get}
use Rattle.bpf_words.specs.declared.instruction.Width.{Width}
use Rattle.bpf_words.specs.declared.instruction.Comparison.{Comparison}
use Rattle.bpf_words.specs.declared.instruction.Operand.{Operand}
use Rattle.bpf_words.specs.declared.instruction.Insn.{Insn}
use Rattle.bpf_words.specs.declared.instruction.Insn.TheVariants.{Compute, Negate, Extend, Convert, Jump, JumpLong}
use Rattle.bpf_words.specs.declared.instruction.Insn.TheVariants.{Branch, Load, LoadSigned, Store, LoadWide, Exit}
use Rattle.bpf_words.specs.Flow.{StartsAt, slots_of}
use Rattle.semantics.specs.Step.{Program}
use Rattle.span_context.specs.declared.profile.Profile.TheVariants.{Three}
use Rattle.abstract_state.specs.Steps.{MayStep}
use Rattle.tracked_state.specs.declared.state.TrackedState.{TrackedState}
use Rattle.tracked_state.specs.Tracked.{TrackedSituation, IsTracked, IsTrackedIn, tracked_of}
use Rattle.tracked_state.specs.Rules.{TrackedWays, entry, exit}
use Rattle.loop_states.specs.Rules.{stepped, branched}
use Rattle.loop_states.specs.Within.{IsWithinInLoop}
use Rattle.loop_labels.specs.Potential as law
use Rattle.label_potentials.specs.Views.{potential_of}
use Rattle.label_potentials.specs.Weights.{IsPositive}
use Rattle.loop_check.specs.declared.label.Label.{Label}
use Rattle.loop_check.specs.Rules.{loop_rules}
use Rattle.loop_check.specs.Leads.{LeadsOn, LeadsIf}

-- each state that is the situation leads to a label
abbrev pub AllLead : List (Option Label) → Label → Insn → ℤ → Option TrackedSituation → Type 0
AllLead all from insn to o =
    (behind : Option TrackedState) → IsTrackedIn behind o → LeadsIf loop_rules all from insn to behind

pub record StepsAlways (all : List (Option Label)) (slot : ℕ) (from : Label) (insn : Insn) : Type 0 where
  pub spares : MayStep insn
  pub behind : Option TrackedSituation
  pub granted : stepped slot insn (tracked_of from.state) ≡ Ok behind
  pub untaken : AllLead all from insn (pos (slot + slots_of insn)) behind

pub record BranchesAlways (width : Width) (comparison : Comparison) (left : ℕ) (right : Operand) (distance : ℤ)
    (all : List (Option Label)) (slot : ℕ) (from : Label) (insn : Insn) : Type 0 where
  pub ways : TrackedWays
  pub granted : branched width comparison left right (tracked_of from.state) ≡ Ok ways
  pub taken : AllLead all from insn (pos (slot + 1) +ℤ distance) ways.taken
  pub untaken : AllLead all from insn (pos (slot + slots_of insn)) ways.untaken

abbrev pub GoesAlways : List (Option Label) → ℕ → Label → Insn → Type 0
GoesAlways all slot from (Compute w op d o) = StepsAlways all slot from (Compute w op d o)
GoesAlways all slot from (Negate w d) = StepsAlways all slot from (Negate w d)
GoesAlways all slot from (Extend e d r) = StepsAlways all slot from (Extend e d r)
GoesAlways all slot from (Convert c b d) = StepsAlways all slot from (Convert c b d)
GoesAlways all slot from (Jump distance) =
    LeadsOn loop_rules all from (Jump distance) (pos (slot + 1) +ℤ distance) from.state
GoesAlways all slot from (JumpLong distance) =
    LeadsOn loop_rules all from (JumpLong distance) (pos (slot + 1) +ℤ distance) from.state
GoesAlways all slot from (Branch w c l r distance) =
    BranchesAlways w c l r distance all slot from (Branch w c l r distance)
GoesAlways all slot from (Load z d b o) = StepsAlways all slot from (Load z d b o)
GoesAlways all slot from (LoadSigned z d b o) = StepsAlways all slot from (LoadSigned z d b o)
GoesAlways all slot from (Store z b o v) = StepsAlways all slot from (Store z b o v)
GoesAlways all slot from (LoadWide d v) = StepsAlways all slot from (LoadWide d v)
GoesAlways all slot from Exit = IsOk (exit (tracked_of from.state))

-- the label at a slot is kept so
pub record KeepsAlways (program : Program) (all : List (Option Label)) (slot : ℕ) (label : Label) : Type 0 where
  pub insn : Insn
  pub starts : StartsAt program slot insn
  pub positive : IsPositive label.state.state label.potential
  pub goes : GoesAlways all slot label insn

abbrev pub KeepsAlwaysAt : Program → List (Option Label) → ℕ → Type 0
KeepsAlwaysAt program all slot =
    (label : Label) → slice_get all slot ≡ Some (Some label) → KeepsAlways program all slot label

-- the first label holds at each start so
pub record BeginsAlways (all : List (Option Label)) (bound : law.Bound) : Type 0 where
  pub first : Label
  pub found : slice_get all 0 ≡ Some (Some first)
  pub whole : potential_of first.potential ≡ law.potential_of bound
  pub widens : (a : TrackedState) → IsTracked a (entry Three)
      → IsWithinInLoop (tracked_of a) (tracked_of first.state)

pub record HoldAlways (program : Program) (all : List (Option Label)) (bound : law.Bound) : Type 0 where
  pub begins : BeginsAlways all bound
  pub kept : (slot : ℕ) → KeepsAlwaysAt program all slot
