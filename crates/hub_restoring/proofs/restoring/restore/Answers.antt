use Rattle.std.proofs.Common.{List, ℕ, subst}
use Rattle.change_ops.specs.declared.size.Size.{Size}
use Rattle.stored_history.specs.Texts.{AreTextsOf}
use Rattle.hub_restoring.proofs.restoring.restore.Goals as goal

pub returns-in-Ok-restore_all-clause-restored : goal.returns-in-Ok-restore_all-clause-restored
returns-in-Ok-restore_all-clause-restored g c =
    let opened = c.in-Ok.opened in
    let read : AreTextsOf g.N.Naming.size opened.texts.items opened.stored.changes =
    subst (λ (s : Size). AreTextsOf s opened.texts.items opened.stored.changes) c.size.ensures c.in-Ok.ensures.accepted.0 in (
      c.in-Ok-restore_all.ensures opened.stored.changes read.spelled read.valid,
      read.accepted,
      subst (λ (texts : List (List ℕ)). g.L.ChangeLog.kept opened.stored.log texts) read.spelled c.in-Ok.ensures.kept,
    )
