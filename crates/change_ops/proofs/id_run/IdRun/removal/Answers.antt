use Rattle.std.proofs.Common.{◌≡◌, ◌<◌, Some, ◌∙◌, sym, subst}
use Rattle.std.specs.List.{slice_get}
use Rattle.change_ops.specs.IdRuns.{IdRun, removals_of}
use Rattle.change_ops.specs.declared.operation.Op.TheVariants.{Remove}
use Rattle.change_ops.proofs.IdRunOps.{removal_of}
use Rattle.change_ops.proofs.id_run.IdRun.removal.Goals as goal

pub returns : goal.returns
returns c =
    let small = subst (λ (r : IdRun). c.args.index < r.count) (sym c.self.view_is) c.requires in
    let id = c.self.inside.id in
    let first = c.self.inside.first in
    let count = c.self.inside.count in
    let all : slice_get (removals_of (record { id = id; first = first; count = count })) c.args.index ≡ Some (Remove c.later.result c.later-2.result) =
    removal_of count id first c.args.index small ∙ (λ k. Some (Remove (sym c.later.ensures k) (sym c.later-2.ensures k))) in
    subst (λ (r : IdRun). slice_get (removals_of r) c.args.index ≡ Some (Remove c.later.result c.later-2.result)) c.self.view_is all
