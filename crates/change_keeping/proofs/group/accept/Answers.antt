use Rattle.std.proofs.Common.{subst, ◌∙◌}
use Rattle.change_ops.specs.declared.size.Size.{Size}
use Rattle.change_history.specs.Accepted.{AreAccepted}
use Rattle.stored_history.specs.Answers.{AreAnswered}
use Rattle.change_keeping.proofs.Telling.{told_all}
use Rattle.change_keeping.proofs.group.accept.Goals as goal

pub returns-clause-told : goal.returns-clause-told
returns-clause-told g c =
    told_all g.N.Keeping.kept c.args.stored.now.changes c.args.changes.items c.in_ok-answers.answers.items c.accept.new.self.changes c.args.requests.now
    (record { accepted = subst (λ (s : Size). AreAccepted s c.accept.new.self.changes) (c.in_ok-answers.ensures.size ∙ c.requires.size) c.count-count.ensures.accepted; texts = c.requires.kept _ c.accept.new.self.log c.in_ok-answers.ensures.kept })
    (subst (λ (s : Size). AreAnswered s c.args.stored.now.changes c.args.changes.items c.in_ok-answers.answers.items c.accept.new.self.changes) c.requires.size c.in_ok-answers.ensures.answered) c.requires.spelled
