-- What is known behind an instruction of a program that may loop: what the third profile's rules say, but that marks
-- name the two lengths, and no value of the last time that the slot ran, that by a length's name one side of a
-- comparison may be known to be ahead of the other, and that numbers and addresses tell one another.
use Rattle.std.specs.Prelude.{◌≡◌, ℕ, true, false, Option, None, Result, Ok, Err, option_map}
use Rattle.bpf_words.specs.declared.instruction.Insn.{Insn}
use Rattle.bpf_words.specs.declared.instruction.Width.{Width}
use Rattle.bpf_words.specs.declared.instruction.Comparison.{Comparison}
use Rattle.bpf_words.specs.declared.instruction.Operand.{Operand}
use Rattle.span_context.specs.declared.profile.Profile.TheVariants.{Three}
use Rattle.abstract_state.specs.declared.refusal.Refusal.{Refusal}
use Rattle.abstract_state.specs.Addresses.{answer_of}
use Rattle.abstract_state.specs.Stepping as steps
use Rattle.value_marks.specs.Marking.{Marking}
use Rattle.tracked_state.specs.declared.state.TrackedState.{TrackedState}
use Rattle.tracked_state.specs.declared.stop.Stop.{Stop}
use Rattle.tracked_state.specs.declared.stop.Stop.TheVariants.{Refused, OutOfMemory}
use Rattle.tracked_state.specs.Tracked.{TrackedSituation, IsTrackedIn, tracked}
use Rattle.tracked_state.specs.Rules.{TrackedWays}
use Rattle.tracked_state.specs.Rules as plain
use Rattle.length_marks.specs.Following.{followed}
use Rattle.loop_states.specs.declared.sharper.Sharper.{Sharper}
use Rattle.loop_states.specs.declared.sharper.Sharper.TheVariants.{Same, Never, Where}
use Rattle.loop_states.specs.Sharper.{sharper_in}
use Rattle.loop_states.specs.Across.{edge_across}

abbrev pub marking_behind : ℕ → Insn → TrackedSituation → Option Marking
marking_behind at insn t = option_map (followed at insn t.situation) t.marking

abbrev pub stepped : ℕ → Insn → TrackedSituation → Result (Option TrackedSituation) Refusal
stepped at insn t =
    answer_of (option_map (tracked (marking_behind at insn t))) (steps.stepped Three insn t.situation)

-- ---- behind a comparison each edge is that of what is known of its sides
abbrev pub edge_along : Width → ℕ → Operand → TrackedSituation → Sharper → Option TrackedSituation
    → Result (Option TrackedSituation) Refusal
edge_along width left right t Same edge = Ok edge
edge_along width left right t Never edge = Ok None
edge_along width left right t (Where comparison) edge =
    answer_of (λ w. w.taken) (plain.branched width comparison left right t)

abbrev pub both_ways : Option TrackedSituation → Result (Option TrackedSituation) Refusal → Result TrackedWays Refusal
both_ways taken (Ok untaken) = Ok (record { taken = taken; untaken = untaken })
both_ways taken (Err refusal) = Err refusal

abbrev pub ways_from : Result (Option TrackedSituation) Refusal → Result (Option TrackedSituation) Refusal
    → Result TrackedWays Refusal
ways_from (Ok taken) untaken = both_ways taken untaken
ways_from (Err refusal) untaken = Err refusal

abbrev pub sharper_ways : Width → Comparison → ℕ → Operand → TrackedSituation → Result TrackedWays Refusal
    → Result TrackedWays Refusal
sharper_ways width comparison left right t (Ok w) =
    ways_from (edge_along width left right t (sharper_in width comparison left right true t) w.taken)
    (edge_along width left right t (sharper_in width comparison left right false t) w.untaken)
sharper_ways width comparison left right t (Err refusal) = Err refusal

-- ---- and on each edge the sides tell those of the other kind
abbrev pub ways_across : ℕ → Operand → Option Marking → TrackedWays → TrackedWays
ways_across left right marking w = record {
  taken = edge_across left right marking w.taken;
  untaken = edge_across left right marking w.untaken;
}

abbrev pub branched : Width → Comparison → ℕ → Operand → TrackedSituation → Result TrackedWays Refusal
branched width comparison left right t =
    answer_of (ways_across left right t.marking)
    (sharper_ways width comparison left right t (plain.branched width comparison left right t))

-- the code's answer for an edge is the rule's, unless there is no memory for its marks
abbrev pub AnswersEdge : Result (Option TrackedSituation) Refusal → Result (Option TrackedState) Stop → Type 0
AnswersEdge rule (Ok edge) = (o : Option TrackedSituation) × (rule ≡ Ok o) × IsTrackedIn edge o
AnswersEdge rule (Err (Refused refusal)) = rule ≡ Err refusal
AnswersEdge rule (Err OutOfMemory) = Unit {0}
