use Rattle.std.proofs.Common.{◌≡◌, ◌<◌, ◌-◌, ◌++◌, length}
use Rattle.std.specs.Prelude.{string_bytes}
use Rattle.span_context.specs.Context.{span_bytes}
use Rattle.bpf_words.specs.Words.{program_of}
use Rattle.semantics.specs.State.{start}
use Rattle.semantics.specs.Outcomes.{outcome_from}
use Rattle.interpreter.specs.Running.{state_of}
use Rattle.step_lines.specs.Steps.{steps_text}
use Rattle.step_lines.proofs.traced_run.push_steps.Given as goal

abbrev pub invariant-loop-taken : goal.invariant-loop-taken
invariant-loop-taken l = record {
  within : l.machine.slot < length (program_of l.words);
  bytes : l.machine.bytes ≡ span_bytes l.context l.text l.link;
  same : outcome_from (program_of l.words) (span_bytes l.context l.text l.link) l.limit start
      ≡ outcome_from (program_of l.words) (span_bytes l.context l.text l.link) (l.limit - l.taken) (state_of l.machine);
  told : string_bytes l.fn.lines ++ steps_text (program_of l.words) (span_bytes l.context l.text l.link) l.limit start
      ≡ string_bytes l.lines ++ steps_text (program_of l.words) (span_bytes l.context l.text l.link) (l.limit - l.taken) (state_of l.machine);
}
