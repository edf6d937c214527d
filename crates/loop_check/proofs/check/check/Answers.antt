use Rattle.std.proofs.Common.{◌≡◌, ap, ◌∙◌}
use Rattle.bpf_words.specs.Words.{program_of}
use Rattle.loop_check.specs.declared.refusal.CheckError.TheVariants.{OutOfMemory}
use Rattle.loop_check.specs.Failures.{error_at}
use Rattle.loop_check.proofs.Completing.{err_as}
use Rattle.loop_check.specs.Labels.{bound_of}
use Rattle.loop_check.proofs.Keeping.{inductive, ends}
use Rattle.loop_check.proofs.check.check.Goals as goal

pub returns-clause-exact : goal.returns-clause-exact
returns-clause-exact c = record { begins = c.in_default.ensures.rule; kept = c.in_ok-keep_each.ensures.rule }

pub returns-clause-sound : goal.returns-clause-sound
returns-clause-sound c =
    inductive (program_of c.args.words.now) c.args.labels.now (bound_of c.args.bound.now)
    (record { begins = c.in_default.ensures.sound; kept = c.in_ok-keep_each.ensures.sound })

pub returns-clause-ends : goal.returns-clause-ends
returns-clause-ends c =
    ends (program_of c.args.words.now) c.args.labels.now (bound_of c.args.bound.now)
    (record { begins = c.in_default.ensures.sound; kept = c.in_ok-keep_each.ensures.sound })

pub returns-in-Err-clause-complete : goal.returns-in-Err-clause-complete
returns-in-Err-clause-complete c = λ hold.
    c.at.ensures ∙ ap (error_at 0) (c.in-Err.ensures.complete hold.begins)

pub returns-in_err-keep_each-clause-complete : goal.returns-in_err-keep_each-clause-complete
returns-in_err-keep_each-clause-complete c = λ hold.
    err_as c.from_residual.result c.in_err-keep_each.field-0.0 (λ e. e ≡ OutOfMemory) c.from_residual.ensures.1
    (c.in_err-keep_each.ensures.complete hold.kept)
