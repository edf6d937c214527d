use Rattle.std.proofs.Common.{List, sym, subst}
use Rattle.std.specs.List.{Contains}
use Rattle.mark_anchors.specs.CommentLists.{begin_of}
use Rattle.mark_anchors.specs.declared.comment_runs.CommentRun.{CommentRun}
use Rattle.mark_anchors.proofs.Between.{between_order, between_holds, contains_range, inside_range}
use Rattle.mark_anchors.proofs.comment_table.begun_between.Goals as goal

pub part-requires-clause-order : goal.part-requires-clause-order
part-requires-clause-order c =
    let a = c.begun_near-from in
    let b = c.begun_near-to in
    between_order begin_of c.args.begins.now a.result b.result c.args.first c.args.second c.requires.order a.ensures.within b.ensures.within a.ensures.first b.ensures.rest

pub returns-clause-between : goal.returns-clause-between
returns-clause-between c =
    let a = c.begun_near-from in
    let b = c.begun_near-to in
    λ run held after upto.
    subst (λ (l : List CommentRun). Contains l run) (sym c.part.ensures)
    (between_holds begin_of c.args.begins.now a.result b.result c.args.first c.args.second c.requires.order a.ensures.within b.ensures.within a.ensures.first b.ensures.rest run held after upto)

pub returns-clause-among : goal.returns-clause-among
returns-clause-among c =
    λ run held.
    contains_range c.args.begins.now c.begun_near-from.result c.begun_near-to.result run (subst (λ (l : List CommentRun). Contains l run) c.part.ensures held)

pub returns-clause-inside : goal.returns-clause-inside
returns-clause-inside c =
    let a = c.begun_near-from in
    let b = c.begun_near-to in
    λ run held.
    inside_range begin_of c.args.begins.now a.result b.result c.args.first c.args.second a.ensures.rest b.ensures.first run (subst (λ (l : List CommentRun). Contains l run) c.part.ensures held)
