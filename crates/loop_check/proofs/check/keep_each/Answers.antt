use Rattle.std.proofs.Common.{◌≡◌, ◌≤◌, length, arith}
use Rattle.bpf_words.specs.Words.{program_of}
use Rattle.loop_check.specs.Rules.{loop_rules}
use Rattle.loop_check.specs.Meanings.{meanings}
use Rattle.loop_check.proofs.Keeping.{none_kept, more_kept, each_kept}
use Rattle.loop_check.specs.declared.refusal.CheckError.TheVariants.{OutOfMemory}
use Rattle.loop_check.proofs.Completing.{err_as}
use Rattle.loop_check.proofs.check.keep_each.Goals as goal

pub loop-slot-init : goal.loop-slot-init
loop-slot-init c = record {
  rule = none_kept loop_rules (program_of c.args.words.now) c.args.labels.now;
  sound = none_kept meanings (program_of c.args.words.now) c.args.labels.now;
}

pub loop-slot-preserved : goal.loop-slot-preserved
loop-slot-preserved c = record {
  rule = more_kept loop_rules (program_of c.args.words.now) c.args.labels.now c.loop-slot.slot
      c.loop-slot.invariant.rule c.in_ok-keep_at.ensures.rule;
  sound = more_kept meanings (program_of c.args.words.now) c.args.labels.now c.loop-slot.slot
      c.loop-slot.invariant.sound c.in_ok-keep_at.ensures.sound;
}

pub returns-clause-rule : goal.returns-clause-rule
returns-clause-rule c =
    let past : length c.args.labels.now ≤ c.loop-slot.slot = omega arith in
    each_kept loop_rules (program_of c.args.words.now) c.args.labels.now c.loop-slot.slot past
    c.loop-slot.invariant.rule

pub returns-clause-sound : goal.returns-clause-sound
returns-clause-sound c =
    let past : length c.args.labels.now ≤ c.loop-slot.slot = omega arith in
    each_kept meanings (program_of c.args.words.now) c.args.labels.now c.loop-slot.slot past
    c.loop-slot.invariant.sound

pub returns-in_err-keep_at-clause-complete : goal.returns-in_err-keep_at-clause-complete
returns-in_err-keep_at-clause-complete c = λ keeps.
    err_as c.from_residual.result c.in_err-keep_at.field-0.0 (λ e. e ≡ OutOfMemory) c.from_residual.ensures.1
    (c.in_err-keep_at.ensures.complete (keeps c.loop-slot.slot))
