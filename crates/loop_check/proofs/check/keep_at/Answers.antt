use Rattle.std.proofs.Common.{ap, ◌∙◌}
use Rattle.bpf_words.specs.Words.{program_of}
use Rattle.loop_check.specs.Failures.{error_at}
use Rattle.loop_check.specs.Rules.{loop_rules}
use Rattle.loop_check.specs.Meanings.{meanings}
use Rattle.loop_check.proofs.Keeping.{kept_at, none_kept_at}
use Rattle.loop_check.proofs.check.keep_at.Goals as goal

pub returns-in_default-clause-rule : goal.returns-in_default-clause-rule
returns-in_default-clause-rule c =
    none_kept_at loop_rules (program_of c.args.words.now) c.args.labels.now c.args.slot c.in_default.ensures

pub returns-in_default-clause-sound : goal.returns-in_default-clause-sound
returns-in_default-clause-sound c =
    none_kept_at meanings (program_of c.args.words.now) c.args.labels.now c.args.slot c.in_default.ensures

pub returns-in-Ok-clause-rule : goal.returns-in-Ok-clause-rule
returns-in-Ok-clause-rule c =
    kept_at loop_rules (program_of c.args.words.now) c.args.labels.now c.args.slot c.in-Some.label.now
    c.in-Some.ensures c.in-Ok.ensures.rule

pub returns-in-Ok-clause-sound : goal.returns-in-Ok-clause-sound
returns-in-Ok-clause-sound c =
    kept_at meanings (program_of c.args.words.now) c.args.labels.now c.args.slot c.in-Some.label.now
    c.in-Some.ensures c.in-Ok.ensures.sound

pub returns-in-Err-clause-complete : goal.returns-in-Err-clause-complete
returns-in-Err-clause-complete c = λ keeps.
    c.at.ensures ∙ ap (error_at c.args.slot) (c.in-Err.ensures.complete (keeps c.in-Some.label.now c.in-Some.ensures))
