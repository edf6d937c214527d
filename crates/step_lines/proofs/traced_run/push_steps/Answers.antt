-- The outcome and the text of a run, from the step that ended it and what the loop kept.
use Rattle.std.proofs.Common.{◌≡◌, ◌+◌, ◌-◌, ◌<◌, ◌∙◌, arith}
use Rattle.span_context.specs.Context.{span_bytes}
use Rattle.bpf_words.specs.Words.{program_of}
use Rattle.interpreter.specs.Running.{state_of}
use Rattle.interpreter.proofs.Running.{goes-on, ends-here, faults-here, no-steps}
use Rattle.step_lines.proofs.Tracing.{told-on, told-end, told-fault, told-all}
use Rattle.step_lines.proofs.traced_run.push_steps.Goals as goal

pub loop-taken-preserved : goal.loop-taken-preserved
loop-taken-preserved c =
    let some : 0 < c.args.limit - c.loop-taken.taken = omega arith in
    let fewer : c.args.limit - (c.loop-taken.taken + 1) ≡ c.args.limit - c.loop-taken.taken - 1 = omega arith in
    let given = rw c.in-Ok-Goes.field-0-is at c.in-Ok-Goes.ensures.value in
    let here =
    goes-on (program_of c.args.words.now) c.loop-taken.machine.bytes (c.args.limit - c.loop-taken.taken) (c.args.limit - (c.loop-taken.taken + 1))
    (state_of c.loop-taken.machine) (state_of c.step.new.self) some fewer given in
    record {
      within = c.in-Ok-Goes.ensures.within;
      bytes = c.in-Ok-Goes.ensures.reads.bytes ∙ c.loop-taken.invariant.bytes;
      same = cc (here, c.loop-taken.invariant.same, c.loop-taken.invariant.bytes);
      told =
          told-on (program_of c.args.words.now) c.loop-taken.machine.bytes _ c.args.limit c.loop-taken.taken _ (state_of c.loop-taken.machine) _ _ _ _
          c.loop-taken-test.true c.loop-taken.invariant.bytes c.slot-slot.ensures c.insn-insn.ensures.value c.loop-taken.invariant.told c.in_ok-push_slot.ensures
          c.step.new.self.bytes (state_of c.step.new.self) _ c.in-Ok-Goes.ensures.reads.bytes given c.in_ok-push_passed-in-Ok-Goes.ensures;
    }

pub returns-in-Ok-Ends : goal.returns-in-Ok-Ends
returns-in-Ok-Ends c =
    let some : 0 < c.args.limit - c.loop-taken.taken = omega arith in
    let given = rw c.in-Ok-Ends.field-0-is at c.in-Ok-Ends.ensures.value in
    let here =
    ends-here (program_of c.args.words.now) c.loop-taken.machine.bytes (c.args.limit - c.loop-taken.taken)
    (state_of c.loop-taken.machine) c.in-Ok-Ends.value some given in
    record {
      outcome = cc (here, c.loop-taken.invariant.same, c.loop-taken.invariant.bytes);
      told =
          told-end (program_of c.args.words.now) c.loop-taken.machine.bytes _ c.args.limit c.loop-taken.taken _ (state_of c.loop-taken.machine) _ _ _ _
          c.loop-taken-test.true c.loop-taken.invariant.bytes c.slot-slot.ensures c.insn-insn.ensures.value c.loop-taken.invariant.told c.in_ok-push_slot.ensures
          c.in-Ok-Ends.value given;
    }

pub returns-in-Err : goal.returns-in-Err
returns-in-Err c =
    let some : 0 < c.args.limit - c.loop-taken.taken = omega arith in
    let given = c.in-Err.ensures.value in
    let here =
    faults-here (program_of c.args.words.now) c.loop-taken.machine.bytes (c.args.limit - c.loop-taken.taken)
    (state_of c.loop-taken.machine) c.in-Err.kind some given in
    record {
      outcome = cc (here, c.loop-taken.invariant.same, c.loop-taken.invariant.bytes, c.slot-slot.ensures);
      told =
          told-fault (program_of c.args.words.now) c.loop-taken.machine.bytes _ c.args.limit c.loop-taken.taken _ (state_of c.loop-taken.machine) _ _ _ _
          c.loop-taken-test.true c.loop-taken.invariant.bytes c.slot-slot.ensures c.insn-insn.ensures.value c.loop-taken.invariant.told c.in_ok-push_slot.ensures
          c.in-Err.kind given;
    }

pub returns : goal.returns
returns c =
    let none : c.args.limit - c.loop-taken.taken ≡ 0 = omega arith in
    let ended =
    no-steps (program_of c.args.words.now) (span_bytes c.args.context.now c.args.text.now c.args.link.now) (c.args.limit - c.loop-taken.taken)
    (state_of c.loop-taken.machine) none in
    record {
      outcome = cc (ended, c.loop-taken.invariant.same);
      told =
          told-all (program_of c.args.words.now) (span_bytes c.args.context.now c.args.text.now c.args.link.now) (c.args.limit - c.loop-taken.taken)
          (state_of c.loop-taken.machine) _ _ none c.loop-taken.invariant.told;
    }
