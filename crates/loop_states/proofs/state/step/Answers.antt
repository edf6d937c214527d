use Rattle.span_context.specs.declared.profile.Profile.TheVariants.{Three}
use Rattle.abstract_state.specs.Situation.{situation_of}
use Rattle.abstract_state.specs.Stepping.{stepped}
use Rattle.value_marks.specs.Copies.{kept}
use Rattle.tracked_state.specs.Tracked.{marking_in, tracked_of}
use Rattle.tracked_state.proofs.Pairs.{own_marking}
use Rattle.loop_states.specs.Rules.{marking_behind}
use Rattle.loop_states.proofs.Landing.{answers_in_loop, steps_in_loop}
use Rattle.loop_states.proofs.state.step.Goals as goal

pub returns-clause-rule : goal.returns-clause-rule
returns-clause-rule c =
    let old = c.args.state.now in
    answers_in_loop (stepped Three c.args.insn.now (situation_of old.state)) (marking_behind c.args.at c.args.insn.now (tracked_of old)) c.step.result c.step.new.self c.follow_copies.new.copies
    (c.follow_copies.ensures.rule (marking_in old) (own_marking (kept old.copies))) c.step.ensures.rule

pub returns-clause-sound : goal.returns-clause-sound
returns-clause-sound c =
    steps_in_loop c.args.state.now c.args.insn.now c.step.result c.step.new.self c.follow_copies.new.copies
    (λ span s next far third held bears ran. c.follow_copies.ensures.sound span s next far c.requires.slot third held bears ran) c.step.ensures.sound
