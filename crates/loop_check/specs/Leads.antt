-- Where the edges of an instruction lead.
use Rattle.std.specs.Prelude.{◌≡◌, ℕ, ℤ, pos, ◌+◌, List, Option, Some, None, Result, Ok, Err, slice_get}
use Rattle.bpf_words.specs.declared.instruction.Insn.{Insn}
use Rattle.bpf_words.specs.declared.instruction.Insn.TheVariants.{Compute, Negate, Extend, Convert, Jump, JumpLong}
use Rattle.bpf_words.specs.declared.instruction.Insn.TheVariants.{Branch, Load, LoadSigned, Store, LoadWide, Exit}
use Rattle.bpf_words.specs.Flow.{jump_of, slots_of}
use Rattle.semantics.specs.Step.{Program}
use Rattle.loop_labels.specs.Rules.{Edges, Rules, Leads, JumpLeads, IsKeptBy}
use Rattle.label_potentials.specs.Views.{potential_of}
use Rattle.label_potentials.specs.declared.potential.Potential.{Potential}
use Rattle.abstract_state.specs.declared.refusal.Refusal.{Refusal}
use Rattle.tracked_state.specs.declared.state.TrackedState.{TrackedState}
use Rattle.tracked_state.specs.declared.stop.Stop.{Stop}
use Rattle.tracked_state.specs.declared.stop.Stop.TheVariants.{Refused, OutOfMemory}
use Rattle.tracked_state.specs.Tracked.{TrackedSituation, IsTrackedIn}
use Rattle.loop_check.specs.declared.label.Label.{Label}
use Rattle.loop_check.specs.Labels.{labelled, labels_of}

abbrev pub with_potential : TrackedState → Potential → Label
with_potential a p = record { state = a; potential = p }

-- on an edge on which so much is known a run comes to a label that says no more, and with fewer steps left
pub record Enters (rules : Rules Label) (from : Label) (insn : Insn) (behind : TrackedState) (label : Label)
    : Type 0 where
  pub widens : rules.widens (with_potential behind label.potential) label
  pub falls : rules.falls from insn (with_potential behind label.potential) (potential_of from.potential)
      (potential_of label.potential)

-- such a label stands at the slot to which the edge leads
pub record LeadsOn (rules : Rules Label) (all : List (Option Label)) (from : Label) (insn : Insn) (to : ℤ)
    (behind : TrackedState) : Type 0 where
  pub place : ℕ
  pub there : pos place ≡ to
  pub label : Label
  pub found : slice_get all place ≡ Some (Some label)
  pub enters : Enters rules from insn behind label

-- where no run comes there needn't be one
abbrev pub LeadsIf : Rules Label → List (Option Label) → Label → Insn → ℤ → Option TrackedState → Type 0
LeadsIf rules all from insn to None = Unit {0}
LeadsIf rules all from insn to (Some behind) = LeadsOn rules all from insn to behind

-- ---- the code's answer is the rule's, unless there is no memory
abbrev pub AnswersBehind : Result (Option TrackedSituation) Refusal → Result (Option TrackedState) Stop → Type 0
AnswersBehind rule (Ok behind) = (o : Option TrackedSituation) × (rule ≡ Ok o) × IsTrackedIn behind o
AnswersBehind rule (Err (Refused refusal)) = rule ≡ Err refusal
AnswersBehind rule (Err OutOfMemory) = Unit {0}

-- ---- all edges of the instruction at a slot lead to labels
pub record GoesBy (rules : Rules Label) (all : List (Option Label)) (slot : ℕ) (from : Label) (insn : Insn)
    : Type 0 where
  pub edges : Edges Label
  pub granted : rules.edges slot insn from edges
  pub taken : JumpLeads rules (labels_of all) (labelled slot from) insn (jump_of insn) edges.taken
  pub untaken : Leads rules (labels_of all) (labelled slot from) insn (pos (slot + slots_of insn)) edges.untaken

-- ---- the label at a slot is kept, if there is one
abbrev pub IsKeptAt : Rules Label → Program → List (Option Label) → ℕ → Type 0
IsKeptAt rules program all slot =
    (label : Label) → slice_get all slot ≡ Some (Some label)
    → IsKeptBy rules program (labels_of all) (labelled slot label)

-- ---- kinds of instructions by their edges
abbrev pub IsJump : Insn → Type 0
IsJump (Compute w op d o) = ⊥
IsJump (Negate w d) = ⊥
IsJump (Extend e d r) = ⊥
IsJump (Convert c b d) = ⊥
IsJump (Jump distance) = Unit {0}
IsJump (JumpLong distance) = Unit {0}
IsJump (Branch w c l r distance) = ⊥
IsJump (Load z d b o) = ⊥
IsJump (LoadSigned z d b o) = ⊥
IsJump (Store z b o v) = ⊥
IsJump (LoadWide d v) = ⊥
IsJump Exit = ⊥

abbrev pub IsComparison : Insn → Type 0
IsComparison (Compute w op d o) = ⊥
IsComparison (Negate w d) = ⊥
IsComparison (Extend e d r) = ⊥
IsComparison (Convert c b d) = ⊥
IsComparison (Jump distance) = ⊥
IsComparison (JumpLong distance) = ⊥
IsComparison (Branch w c l r distance) = Unit {0}
IsComparison (Load z d b o) = ⊥
IsComparison (LoadSigned z d b o) = ⊥
IsComparison (Store z b o v) = ⊥
IsComparison (LoadWide d v) = ⊥
IsComparison Exit = ⊥

abbrev pub IsPlain : Insn → Type 0
IsPlain (Compute w op d o) = Unit {0}
IsPlain (Negate w d) = Unit {0}
IsPlain (Extend e d r) = Unit {0}
IsPlain (Convert c b d) = Unit {0}
IsPlain (Jump distance) = ⊥
IsPlain (JumpLong distance) = ⊥
IsPlain (Branch w c l r distance) = ⊥
IsPlain (Load z d b o) = Unit {0}
IsPlain (LoadSigned z d b o) = Unit {0}
IsPlain (Store z b o v) = Unit {0}
IsPlain (LoadWide d v) = Unit {0}
IsPlain Exit = ⊥
