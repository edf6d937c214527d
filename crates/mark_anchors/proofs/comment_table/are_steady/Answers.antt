use Rattle.std.proofs.Common.{◌≡◌, ◌<◌, ◌≤◌, ◌∙◌, ℕ, List, length, get_or, refl, sym, ap, subst, arith, ⊎_elim}
use Rattle.std.proofs.lemmas.Bool.{cases_lt, false≢true}
use Rattle.std.proofs.lemmas.List.{get_or_default}
use Rattle.mark_anchors.specs.CommentLists.{IsSteady}
use Rattle.mark_anchors.specs.declared.comment_runs.CommentRun.{CommentRun}
use Rattle.mark_anchors.proofs.comment_table.are_steady.Goals as goal

pub returns-then-not-is_steady : goal.returns-then-not-is_steady
returns-then-not-is_steady c =
    let steady : CommentRun → Type 0 = λ run. IsSteady c.args.runs.now run.number c.args.first c.args.second in (
      λ is. absurd (false≢true is),
      λ all. absurd (false≢true (sym c.if-not-is_steady.true ∙ c.is_steady.ensures.1 (subst steady (sym c.run-item.is) (all c.loop-run.run-index c.run-item.result c.loop-run-test.true)))),
    )

pub loop-run-preserved : goal.loop-run-preserved
loop-run-preserved c =
    let steady : CommentRun → Type 0 = λ run. IsSteady c.args.runs.now run.number c.args.first c.args.second in
    let changed : List CommentRun = c.args.changed.now in
    let index : ℕ = c.loop-run.run-index in
    λ k d less.
    ⊎_elim
    (λ (low : k < index). c.loop-run.invariant k d low)
    (λ (ge : index ≤ k).
    let same : index ≡ k = omega arith in
    subst steady (c.run-item.is ∙ get_or_default changed index c.run-item.result d c.loop-run-test.true ∙ ap (λ n. get_or changed n d) same) (c.is_steady.ensures.0 c.if-not-is_steady.false))
    (cases_lt k index)

pub returns : goal.returns
returns c =
    let past : length c.args.changed.now ≤ c.loop-run.run-index = c.loop-run-test.false in
    (λ is k d less. c.loop-run.invariant k d (omega arith), λ all. refl)
