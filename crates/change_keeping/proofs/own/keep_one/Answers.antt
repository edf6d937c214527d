use Rattle.std.proofs.Common.{subst}
use Rattle.change_ops.specs.declared.size.Size.{Size}
use Rattle.change_ops.specs.Spelling.{change_text}
use Rattle.change_history.specs.Accepted.{AreAccepted}
use Rattle.change_keeping.specs.Kept.{some_log}
use Rattle.change_keeping.proofs.Telling.{told_alone, told_change}
use Rattle.change_keeping.proofs.own.keep_one.Goals as goal

pub returns-clause-ok : goal.returns-clause-ok
returns-clause-ok g c =
    (told_alone (some_log c.args.stored.now.size g.L.ChangeLog.kept) (change_text c.args.change.now) c.in-Some.answer c.outcome.result
    (told_change (some_log c.args.stored.now.size g.L.ChangeLog.kept) c.args.stored.now.changes c.args.change.now c.in-Ok.changes.items c.in-Ok-accept.answers.items c.pop.new.self.items c.in-Some.answer c.accept.new.self.changes
    (record { accepted = subst (λ (s : Size). AreAccepted s c.accept.new.self.changes) c.in-Ok-accept.ensures.size c.count-count.ensures.accepted; texts = (c.accept.new.self.log, c.in-Ok-accept.ensures.kept) })
    c.in-Ok-accept.ensures.answered c.in-Ok.ensures.copy c.in-Some.ensures.items c.in-Ok.ensures.spelled)
    c.outcome.ensures).0

pub returns-clause-err : goal.returns-clause-err
returns-clause-err g c =
    (told_alone (some_log c.args.stored.now.size g.L.ChangeLog.kept) (change_text c.args.change.now) c.in-Some.answer c.outcome.result
    (told_change (some_log c.args.stored.now.size g.L.ChangeLog.kept) c.args.stored.now.changes c.args.change.now c.in-Ok.changes.items c.in-Ok-accept.answers.items c.pop.new.self.items c.in-Some.answer c.accept.new.self.changes
    (record { accepted = subst (λ (s : Size). AreAccepted s c.accept.new.self.changes) c.in-Ok-accept.ensures.size c.count-count.ensures.accepted; texts = (c.accept.new.self.log, c.in-Ok-accept.ensures.kept) })
    c.in-Ok-accept.ensures.answered c.in-Ok.ensures.copy c.in-Some.ensures.items c.in-Ok.ensures.spelled)
    c.outcome.ensures).1
