-- The rules by which labels are checked. What is known is a label: its state, and its potential, which on an edge is
-- that of the label to which it leads.
use Rattle.std.specs.Prelude.{◌≡◌, ℕ, Option, Some, None, Ok, IsOk, option_map}
use Rattle.span_context.specs.Context.{SpanBytes}
use Rattle.span_context.specs.declared.profile.Profile.TheVariants.{Three}
use Rattle.bpf_words.specs.declared.instruction.Width.{Width}
use Rattle.bpf_words.specs.declared.instruction.Comparison.{Comparison}
use Rattle.bpf_words.specs.declared.instruction.Operand.{Operand}
use Rattle.bpf_words.specs.declared.instruction.Insn.{Insn}
use Rattle.bpf_words.specs.declared.instruction.Insn.TheVariants.{Compute, Negate, Extend, Convert, Jump, JumpLong}
use Rattle.bpf_words.specs.declared.instruction.Insn.TheVariants.{Branch, Load, LoadSigned, Store, LoadWide, Exit}
use Rattle.semantics.specs.State.{State}
use Rattle.semantics.specs.Safe.{IsSpanIn}
use Rattle.loop_labels.specs.Potential as law
use Rattle.loop_labels.specs.Rules.{Edges, Rules}
use Rattle.abstract_state.specs.State.{Span, lengths_of}
use Rattle.abstract_state.specs.Steps.{MayStep}
use Rattle.tracked_state.specs.declared.state.TrackedState.{TrackedState}
use Rattle.tracked_state.specs.Tracked.{TrackedSituation, IsTracked, IsTrackedIn, tracked_of}
use Rattle.tracked_state.specs.Rules.{TrackedWays, entry, exit}
use Rattle.loop_states.specs.Contained.{ContainsInLoop}
use Rattle.loop_states.specs.Rules.{stepped, branched}
use Rattle.loop_states.specs.Within.{IsWithinInLoop}
use Rattle.label_potentials.specs.Views.{potential_of}
use Rattle.label_potentials.specs.Weights.{IsPositive}
use Rattle.potential_edges.specs.Edges.{FallsBy}
use Rattle.loop_check.specs.declared.label.Label.{Label}

-- a run of the third profile on what is lent
abbrev pub lent : (bytes : SpanBytes) → IsSpanIn Three bytes → Span
lent bytes whole = record { profile = Three; bytes = bytes; whole = whole }

-- the machine's state is contained, in a run on these bytes
abbrev pub contains : Label → SpanBytes → State → Type 0
contains label bytes s = (whole : IsSpanIn Three bytes) → ContainsInLoop label.state (lengths_of (lent bytes whole)) s

-- ---- the edges of an instruction, whatever their potentials
abbrev pub states_in : Option Label → Option TrackedState
states_in edge = option_map (λ label. label.state) edge

pub record JumpEdges (a : TrackedState) (edges : Edges Label) : Type 0 where
  pub taken : states_in edges.taken ≡ Some a
  pub untaken : edges.untaken ≡ None

pub record BranchEdges (width : Width) (comparison : Comparison) (left : ℕ) (right : Operand) (a : TrackedState)
    (edges : Edges Label) : Type 0 where
  pub ways : TrackedWays
  pub granted : branched width comparison left right (tracked_of a) ≡ Ok ways
  pub taken : IsTrackedIn (states_in edges.taken) ways.taken
  pub untaken : IsTrackedIn (states_in edges.untaken) ways.untaken

pub record StepEdges (at : ℕ) (insn : Insn) (a : TrackedState) (edges : Edges Label) : Type 0 where
  pub spares : MayStep insn
  pub behind : Option TrackedSituation
  pub granted : stepped at insn (tracked_of a) ≡ Ok behind
  pub taken : edges.taken ≡ None
  pub untaken : IsTrackedIn (states_in edges.untaken) behind

-- a run ends with a number
pub record ExitEdges (a : TrackedState) (edges : Edges Label) : Type 0 where
  pub granted : IsOk (exit (tracked_of a))
  pub taken : edges.taken ≡ None
  pub untaken : edges.untaken ≡ None

abbrev pub EdgesBy : ℕ → Insn → TrackedState → Edges Label → Type 0
EdgesBy at (Compute w op d o) a edges = StepEdges at (Compute w op d o) a edges
EdgesBy at (Negate w d) a edges = StepEdges at (Negate w d) a edges
EdgesBy at (Extend e d r) a edges = StepEdges at (Extend e d r) a edges
EdgesBy at (Convert c b d) a edges = StepEdges at (Convert c b d) a edges
EdgesBy at (Jump distance) a edges = JumpEdges a edges
EdgesBy at (JumpLong distance) a edges = JumpEdges a edges
EdgesBy at (Branch width comparison left right distance) a edges = BranchEdges width comparison left right a edges
EdgesBy at (Load z d b o) a edges = StepEdges at (Load z d b o) a edges
EdgesBy at (LoadSigned z d b o) a edges = StepEdges at (LoadSigned z d b o) a edges
EdgesBy at (Store z b o v) a edges = StepEdges at (Store z b o v) a edges
EdgesBy at (LoadWide d v) a edges = StepEdges at (LoadWide d v) a edges
EdgesBy at Exit a edges = ExitEdges a edges

-- ---- what is known on an edge follows, part by part, what the label says
pub record IsLabelWithin (behind label : Label) : Type 0 where
  pub states : IsWithinInLoop (tracked_of behind.state) (tracked_of label.state)
  pub potentials : behind.potential ≡ label.potential

-- ---- potentials are compared term by term
pub record IsLabelPositive (label : Label) (p : law.Potential) : Type 0 where
  pub own : p ≡ potential_of label.potential
  pub positive : IsPositive label.state.state label.potential

pub record LabelFalls (label : Label) (insn : Insn) (behind : Label) (p q : law.Potential) : Type 0 where
  pub first : p ≡ potential_of label.potential
  pub second : q ≡ potential_of behind.potential
  pub falls : FallsBy label.state insn behind.state.state label.potential behind.potential

abbrev pub loop_rules : Rules Label
loop_rules = record {
  contains = contains;
  entry = λ label. IsTracked label.state (entry Three);
  edges = λ at insn label edges. EdgesBy at insn label.state edges;
  widens = IsLabelWithin;
  is_positive = IsLabelPositive;
  falls = LabelFalls;
}
