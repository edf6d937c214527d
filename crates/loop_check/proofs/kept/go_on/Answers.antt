use Rattle.std.proofs.Common.{sym, refl, subst, IsOk}
use Rattle.loop_check.specs.Rules.{loop_rules}
use Rattle.loop_check.specs.Meanings.{meanings}
use Rattle.loop_check.specs.Leads.{GoesBy}
use Rattle.loop_check.proofs.Going.{exit_goes, exit_goes_soundly}
use Rattle.std.proofs.lemmas.Bool.{false≢true}
use Rattle.tracked_state.specs.Tracked.{tracked_of}
use Rattle.tracked_state.specs.Rules.{exit}
use Rattle.loop_check.specs.Always.{GoesAlways}
use Rattle.loop_check.proofs.kept.go_on.Goals as goal

pub returns-in_ok-jump-in-Jump-clause-rule : goal.returns-in_ok-jump-in-Jump-clause-rule
returns-in_ok-jump-in-Jump-clause-rule c = c.in_ok-jump-in-Jump.ensures.rule.0 refl

pub returns-in_ok-jump-in-Jump-clause-sound : goal.returns-in_ok-jump-in-Jump-clause-sound
returns-in_ok-jump-in-Jump-clause-sound c = c.in_ok-jump-in-Jump.ensures.sound refl

pub returns-in_ok-jump-in-JumpLong-clause-rule : goal.returns-in_ok-jump-in-JumpLong-clause-rule
returns-in_ok-jump-in-JumpLong-clause-rule c = c.in_ok-jump-in-JumpLong.ensures.rule.0 refl

pub returns-in_ok-jump-in-JumpLong-clause-sound : goal.returns-in_ok-jump-in-JumpLong-clause-sound
returns-in_ok-jump-in-JumpLong-clause-sound c = c.in_ok-jump-in-JumpLong.ensures.sound refl

pub returns-in_ok-exit-in-Exit-clause-rule : goal.returns-in_ok-exit-in-Exit-clause-rule
returns-in_ok-exit-in-Exit-clause-rule c =
    subst (GoesBy loop_rules c.args.labels.now c.args.slot c.args.from.now) (sym c.in-Exit.is)
    (exit_goes c.args.labels.now c.args.slot c.args.from.now (subst IsOk c.in_ok-exit-in-Exit.ensures.rule refl))

pub returns-in_ok-exit-in-Exit-clause-sound : goal.returns-in_ok-exit-in-Exit-clause-sound
returns-in_ok-exit-in-Exit-clause-sound c =
    subst (GoesBy meanings c.args.labels.now c.args.slot c.args.from.now) (sym c.in-Exit.is)
    (exit_goes_soundly c.args.labels.now c.args.slot c.args.from.now c.in_ok-exit-in-Exit.ensures.sound)

pub returns-in_err-jump-in-Jump-clause-complete : goal.returns-in_err-jump-in-Jump-clause-complete
returns-in_err-jump-in-Jump-clause-complete c = λ always.
    absurd (false≢true (c.in_err-jump-in-Jump.ensures.complete always))

pub returns-in_err-jump-in-JumpLong-clause-complete : goal.returns-in_err-jump-in-JumpLong-clause-complete
returns-in_err-jump-in-JumpLong-clause-complete c = λ always.
    absurd (false≢true (c.in_err-jump-in-JumpLong.ensures.complete always))

pub returns-in_err-exit-in-Exit-clause-complete : goal.returns-in_err-exit-in-Exit-clause-complete
returns-in_err-exit-in-Exit-clause-complete c = λ always.
    let ok : IsOk (exit (tracked_of c.args.from.now.state))
    = subst (GoesAlways c.args.labels.now c.args.slot c.args.from.now) c.in-Exit.is always in
    absurd (false≢true (subst IsOk (sym c.in_err-exit-in-Exit.ensures.rule) ok))
