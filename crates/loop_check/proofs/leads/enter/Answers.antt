use Rattle.std.proofs.Common.{IsTrue, subst, refl}
use Rattle.std.proofs.lemmas.Bool.{false≢true}
use Rattle.loop_check.proofs.Leading.{enters_by, is_entered_within, is_entered_falling, enters_soundly}
use Rattle.loop_check.proofs.leads.enter.Goals as goal

pub returns-then-not-is_within-clause-rule : goal.returns-then-not-is_within-clause-rule
returns-then-not-is_within-clause-rule c = (
  λ ok. absurd (false≢true ok),
  λ enters. absurd (false≢true (subst IsTrue c.if-not-is_within.true
      (c.is_within.ensures.rule.1
      (is_entered_within c.args.from.now c.args.insn.now c.args.behind.now c.args.label.now enters)))),
)

pub returns-then-not-is_within-clause-sound : goal.returns-then-not-is_within-clause-sound
returns-then-not-is_within-clause-sound c = λ ok. absurd (false≢true ok)

pub returns-then-not-falls-clause-rule : goal.returns-then-not-falls-clause-rule
returns-then-not-falls-clause-rule c = (
  λ ok. absurd (false≢true ok),
  λ enters. absurd (false≢true (subst IsTrue c.if-not-falls.true
      (c.falls.ensures.rule.1
      (is_entered_falling c.args.from.now c.args.insn.now c.args.behind.now c.args.label.now enters)))),
)

pub returns-then-not-falls-clause-sound : goal.returns-then-not-falls-clause-sound
returns-then-not-falls-clause-sound c = λ ok. absurd (false≢true ok)

pub returns-clause-rule : goal.returns-clause-rule
returns-clause-rule c = (
  λ ok. enters_by c.args.from.now c.args.insn.now c.args.behind.now c.args.label.now
      (c.is_within.ensures.rule.0 c.if-not-is_within.false) (c.falls.ensures.rule.0 c.if-not-falls.false),
  λ enters. refl,
)

pub returns-clause-sound : goal.returns-clause-sound
returns-clause-sound c = λ ok.
    enters_soundly c.args.from.now c.args.insn.now c.args.behind.now c.args.label.now
    (c.is_within.ensures.sound c.if-not-is_within.false) (c.falls.ensures.sound c.if-not-falls.false)
