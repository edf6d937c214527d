-- The rules of situations with their marks. Of the situation each is what it is without marks, but that the sides of a
-- comparison tell their copies on each edge.
use Rattle.std.specs.Prelude.{ℕ, ⊤, if◌then◌else◌, Option, Some, None, Result, option_map, option_and_then}
use Rattle.span_context.specs.declared.profile.Profile.{Profile}
use Rattle.span_context.specs.Profile.{has_more_rules}
use Rattle.bpf_words.specs.declared.instruction.Insn.{Insn}
use Rattle.bpf_words.specs.declared.instruction.Width.{Width}
use Rattle.bpf_words.specs.declared.instruction.Comparison.{Comparison}
use Rattle.bpf_words.specs.declared.instruction.Operand.{Operand}
use Rattle.abstract_state.specs.declared.refusal.Refusal.{Refusal}
use Rattle.abstract_state.specs.Addresses.{answer_of}
use Rattle.abstract_state.specs.Situation.{Situation}
use Rattle.abstract_state.specs.Situation as alone
use Rattle.abstract_state.specs.Stepping as steps
use Rattle.abstract_state.specs.Edges as edges
use Rattle.value_marks.specs.Marking.{Marking, no_marks, followed}
use Rattle.value_marks.specs.Copies.{joined_copies, copies_tell}
use Rattle.tracked_state.specs.Tracked.{TrackedSituation, tracked}

-- ---- at the start of each run; copies are followed by the rules that the first two profiles leave out
abbrev pub first_marking : Profile → Option Marking
first_marking profile = if has_more_rules profile then Some no_marks else None

abbrev pub entry : Profile → TrackedSituation
entry profile = tracked (first_marking profile) alone.entry

-- ---- the marks follow an instruction by what is known before it
abbrev pub followed_marking : ℕ → Insn → TrackedSituation → Option Marking
followed_marking at insn t = option_map (followed at insn t.situation) t.marking

abbrev pub stepped : Profile → ℕ → Insn → TrackedSituation → Result (Option TrackedSituation) Refusal
stepped profile at insn t =
    answer_of (option_map (tracked (followed_marking at insn t))) (steps.stepped profile insn t.situation)

abbrev pub exit : TrackedSituation → Result ⊤ Refusal
exit t = steps.exit t.situation

-- ---- on an edge of a comparison both sides tell their copies; where that is contradicted no run comes
abbrev pub told_edge : ℕ → Operand → Option Marking → Option Situation → Option TrackedSituation
told_edge left right marking edge = option_map (tracked marking) (option_and_then (copies_tell left right marking) edge)

-- both edges: where the comparison holds, and where it doesn't
pub record TrackedWays : Type 0 where
  pub taken : Option TrackedSituation
  pub untaken : Option TrackedSituation

abbrev pub told_ways : ℕ → Operand → Option Marking → edges.Ways → TrackedWays
told_ways left right marking w = record {
  taken = told_edge left right marking w.taken;
  untaken = told_edge left right marking w.untaken;
}

abbrev pub branched : Width → Comparison → ℕ → Operand → TrackedSituation → Result TrackedWays Refusal
branched width comparison left right t =
    answer_of (told_ways left right t.marking) (edges.branched width comparison left right t.situation)

-- ---- where ways join
abbrev pub joined : Profile → TrackedSituation → TrackedSituation → TrackedSituation
joined profile a b = tracked (joined_copies a.marking b.marking) (alone.joined profile a.situation b.situation)
