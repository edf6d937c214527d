-- What a step of the machine leads to, and how the code's answers are those of the rules.
use Rattle.std.specs.Prelude.{◌≡◌, ℕ, ℤ, Bool, Option, Some, None, Result, Ok, Err}
use Rattle.span_context.specs.declared.profile.Profile.{Profile}
use Rattle.bpf_words.specs.declared.instruction.Insn.{Insn}
use Rattle.bpf_words.specs.declared.instruction.Width.{Width}
use Rattle.bpf_words.specs.declared.instruction.Comparison.{Comparison}
use Rattle.bpf_words.specs.declared.instruction.Operand.{Operand}
use Rattle.semantics.specs.State.{State, register_of, operand_in}
use Rattle.semantics.specs.Step.{Moved, On, Returns}
use Rattle.semantics.specs.Value.{cut, holds_of}
use Rattle.abstract_state.specs.declared.refusal.Refusal.{Refusal}
use Rattle.abstract_state.specs.declared.step.Flow.{Flow}
use Rattle.abstract_state.specs.declared.step.Flow.TheVariants.{Live, Dead}
use Rattle.abstract_state.specs.Lent.{Lengths}
use Rattle.abstract_state.specs.State.{Span, lengths_of, does}
use Rattle.abstract_state.specs.Steps.{distance_of}
use Rattle.tracked_state.specs.declared.state.TrackedState.{TrackedState}
use Rattle.tracked_state.specs.declared.stop.Stop.{Stop}
use Rattle.tracked_state.specs.declared.stop.Stop.TheVariants.{Refused, OutOfMemory}
use Rattle.tracked_state.specs.declared.branch.TrackedEdges.{TrackedEdges}
use Rattle.tracked_state.specs.Tracked.{ContainsTracked, WithinTracked, TrackedSituation, IsTracked, IsTrackedIn}
use Rattle.tracked_state.specs.Rules.{TrackedWays}

-- the state after a step, if a run can come there
abbrev pub after_tracked : Flow → TrackedState → Option TrackedState
after_tracked Live a = Some a
after_tracked Dead a = None

-- no fault; the next state, if there is one, is contained, and lies that far on; an end of the run has a live answer
abbrev pub LandsTracked : Option TrackedState → Lengths → ℤ → Moved → Type 0
LandsTracked o lengths distance (Ok (On next far)) = (far ≡ distance) × WithinTracked o lengths next
LandsTracked o lengths distance (Ok (Returns value)) = (a : TrackedState) × (o ≡ Some a)
LandsTracked o lengths distance (Err kind) = ⊥

-- from each contained state of a run of the profile; so where the answer is dead, no state was contained
abbrev pub StepsToTracked : Profile → TrackedState → Insn → Option TrackedState → Type 0
StepsToTracked profile a insn o =
    (span : Span) (s : State) → span.profile ≡ profile → ContainsTracked a (lengths_of span) s
    → LandsTracked o (lengths_of span) (distance_of insn) (does span s insn)

-- from each contained state both sides are set, and where the comparison holds, or doesn't, as it is taken, the state
-- is in the edge
abbrev pub TrackedEdge : TrackedState → Width → Comparison → ℕ → Operand → Bool → Option TrackedState → Type 0
TrackedEdge a width comparison left right taken edge =
    (span : Span) (s : State) → ContainsTracked a (lengths_of span) s
    → (m : ℕ) × ((n : ℕ) × (register_of s left ≡ Ok m) × (operand_in s right ≡ Ok n)
    × (holds_of comparison width (cut width m) (cut width n) ≡ taken → WithinTracked edge (lengths_of span) s))

-- ---- the code's answer is the rule's: no run comes past, or the state then is the situation
abbrev pub FlowsTracked : Option TrackedSituation → Flow → TrackedState → Type 0
FlowsTracked None flow a = flow ≡ Dead
FlowsTracked (Some t) flow a = (flow ≡ Live) × IsTracked a t

abbrev pub AnswersTrackedStep : Result (Option TrackedSituation) Refusal → Result Flow Refusal → TrackedState → Type 0
AnswersTrackedStep (Ok o) answer a = (flow : Flow) × (answer ≡ Ok flow) × FlowsTracked o flow a
AnswersTrackedStep (Err refusal) answer a = answer ≡ Err refusal

-- of a comparison, unless there is no memory for the marks of its edges
abbrev pub AnswersTrackedBranch : Result TrackedWays Refusal → Result TrackedEdges Stop → Type 0
AnswersTrackedBranch rule (Ok e) =
    (w : TrackedWays) × (rule ≡ Ok w) × IsTrackedIn e.taken w.taken × IsTrackedIn e.untaken w.untaken
AnswersTrackedBranch rule (Err (Refused refusal)) = rule ≡ Err refusal
AnswersTrackedBranch rule (Err OutOfMemory) = Unit {0}
