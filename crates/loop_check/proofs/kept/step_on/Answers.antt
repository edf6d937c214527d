use Rattle.std.proofs.Common.{IsTrue, refl, subst}
use Rattle.std.proofs.lemmas.Bool.{false≢true}
use Rattle.abstract_state.specs.Steps.{MayStep}
use Rattle.loop_check.proofs.Landing.{may_step}
use Rattle.loop_check.proofs.Going.{plain_goes, plain_goes_soundly}
use Rattle.tracked_state.specs.Tracked.{tracked_of}
use Rattle.loop_states.specs.Rules.{stepped}
use Rattle.loop_check.proofs.Completing.{plain_always, not_written, stops_as, step_stops, step_behind}
use Rattle.loop_check.proofs.kept.step_on.Goals as goal

pub known_behind-requires-clause-spares : goal.known_behind-requires-clause-spares
known_behind-requires-clause-spares c =
    may_step c.args.insn.now c.requires.plain
    (λ writes. false≢true (subst IsTrue c.if-writes_r10.false (c.writes_r10.ensures.1 writes)))

pub returns-clause-rule : goal.returns-clause-rule
returns-clause-rule c =
    let spares : MayStep c.args.insn.now
    = may_step c.args.insn.now c.requires.plain
    (λ writes. false≢true (subst IsTrue c.if-writes_r10.false (c.writes_r10.ensures.1 writes))) in
    plain_goes c.args.labels.now c.args.slot c.args.from.now c.args.insn.now c.in_ok-behind.behind c.requires.plain
    spares c.in_ok-behind.ensures.rule (c.in_ok-fall_on.ensures.rule.0 refl)

pub returns-clause-sound : goal.returns-clause-sound
returns-clause-sound c =
    plain_goes_soundly c.args.labels.now c.args.slot c.args.from.now c.args.insn.now c.in_ok-behind.behind
    c.requires.plain c.in_ok-behind.ensures.sound (c.in_ok-fall_on.ensures.sound refl)

pub returns-then-writes_r10-clause-complete : goal.returns-then-writes_r10-clause-complete
returns-then-writes_r10-clause-complete c = λ always.
    let by = plain_always c.args.labels.now c.args.slot c.args.from.now c.args.insn.now c.requires.plain always in
    absurd (not_written c.args.insn.now by.spares (c.writes_r10.ensures.0 c.if-writes_r10.true))

pub returns-in_err-behind-clause-complete : goal.returns-in_err-behind-clause-complete
returns-in_err-behind-clause-complete c = λ always.
    let from = c.args.from.now in
    let by = plain_always c.args.labels.now c.args.slot from c.args.insn.now c.requires.plain always in
    stops_as c.from_residual.result c.in_err-behind.field-0.0 c.from_residual.ensures.1
    (step_stops (stepped c.args.slot c.args.insn.now (tracked_of from.state)) by.behind c.in_err-behind.field-0.0
    by.granted c.in_err-behind.ensures.rule)

pub returns-in_err-fall_on-clause-complete : goal.returns-in_err-fall_on-clause-complete
returns-in_err-fall_on-clause-complete c = λ always.
    let from = c.args.from.now in
    let by = plain_always c.args.labels.now c.args.slot from c.args.insn.now c.requires.plain always in
    absurd (false≢true (c.in_err-fall_on.ensures.rule.1
    (by.untaken c.in_ok-behind.behind
    (step_behind (stepped c.args.slot c.args.insn.now (tracked_of from.state)) by.behind c.in_ok-behind.behind by.granted
    c.in_ok-behind.ensures.rule))))
