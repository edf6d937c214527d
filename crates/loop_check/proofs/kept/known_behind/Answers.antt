use Rattle.std.proofs.Common.{Option, Ok, sym, subst}
use Rattle.tracked_state.specs.declared.state.TrackedState.{TrackedState}
use Rattle.tracked_state.specs.Tracked.{tracked_of}
use Rattle.tracked_state.specs.Tracking.{after_tracked}
use Rattle.loop_states.specs.Contained.{StepsInLoop}
use Rattle.loop_states.specs.Rules.{stepped}
use Rattle.loop_check.specs.Leads.{AnswersBehind}
use Rattle.loop_check.proofs.Behind.{steps_from, answers_from, refuses_from}
use Rattle.loop_check.proofs.kept.known_behind.Goals as goal

pub returns-in-Ok-step-clause-rule : goal.returns-in-Ok-step-clause-rule
returns-in-Ok-step-clause-rule c =
    subst (λ (o : Option TrackedState).
    AnswersBehind (stepped c.args.slot c.args.insn.now (tracked_of c.args.state.now)) (Ok o)) (sym c.state_after.ensures)
    (answers_from c.in-Ok.behind c.args.state.now (stepped c.args.slot c.args.insn.now) c.in-Ok-step.flow c.step.new.state
    c.in-Ok.ensures.state c.in-Ok.ensures.copies c.in-Ok-step.ensures.rule)

pub returns-in-Ok-step-clause-sound : goal.returns-in-Ok-step-clause-sound
returns-in-Ok-step-clause-sound c =
    subst (λ (o : Option TrackedState). StepsInLoop c.args.state.now c.args.insn.now o) (sym c.state_after.ensures)
    (steps_from c.in-Ok.behind c.args.state.now c.args.insn.now (after_tracked c.in-Ok-step.flow c.step.new.state)
    c.in-Ok.ensures.state c.in-Ok.ensures.copies c.in-Ok-step.ensures.sound)

pub returns-in-Err-clause-rule : goal.returns-in-Err-clause-rule
returns-in-Err-clause-rule c =
    refuses_from c.in-Ok.behind c.args.state.now (stepped c.args.slot c.args.insn.now) c.in-Err.refusal
    c.step.new.state c.in-Ok.ensures.state c.in-Ok.ensures.copies c.in-Err.ensures.rule
