use Rattle.std.proofs.Common.{rules, ◌≡◌, ℕ, ◌-◌, ◌<◌, ◌⊎◌, ◌↔◌, List, Some, length, refl, sym, ap, ◌∙◌, subst, arith}
use Rattle.std.specs.List.{slice_get}
use Rattle.std.proofs.lemmas.Option.{same_Some}
use Rattle.mark_anchors.specs.CommentRuns.{AreOrderly, HasPlace, HasRun}
use Rattle.mark_anchors.specs.declared.comment_runs.CommentRun.{CommentRun}
use Rattle.mark_anchors.proofs.Lists.{read_at}
use Rattle.mark_anchors.proofs.Running.{orderly_more}
use Rattle.mark_anchors.proofs.Lengthening.{orderly_longer, places_longer, places_more}
use Rattle.mark_anchors.proofs.comment_runs.push_run.Goals as goal

pub returns-then-last-run-clause-orderly : goal.returns-then-last-run-clause-orderly
returns-then-last-run-clause-orderly c =
    let runs : List CommentRun = c.args.runs.now.items in
    let run : CommentRun = c.args.run in
    let i : ℕ = c.len-count.result - 1 in
    let last : CommentRun = c.index_mut.result.now in
    let counted : c.len-count.result ≡ length runs = search rules in
    let some : 0 < c.len-count.result = c.if-count-gt0.true in
    let at : slice_get runs i ≡ Some last = read_at runs i last c.index_mut.ensures.value (omega arith) in
    let same : c.index.result.now ≡ last = same_Some c.index.result.now last (sym (read_at runs i c.index.result.now c.index.ensures (omega arith)) ∙ at) in
    let number : last.number ≡ run.number = search (rules, same, c.if-eq.ensures, c.if-eq.true) in
    let begins : last.to ≡ run.from = ap (λ (z : CommentRun). z.to) (sym same) ∙ c.if-last-run.true in
    let long : CommentRun = record { number = last.number; from = last.from; to = run.to } in
    orderly_longer runs i last long run at (omega arith) number begins c.requires.along refl refl refl c.requires.orderly

pub returns-then-last-run-clause-places : goal.returns-then-last-run-clause-places
returns-then-last-run-clause-places c =
    let runs : List CommentRun = c.args.runs.now.items in
    let run : CommentRun = c.args.run in
    let i : ℕ = c.len-count.result - 1 in
    let last : CommentRun = c.index_mut.result.now in
    let counted : c.len-count.result ≡ length runs = search rules in
    let some : 0 < c.len-count.result = c.if-count-gt0.true in
    let at : slice_get runs i ≡ Some last = read_at runs i last c.index_mut.ensures.value (omega arith) in
    let same : c.index.result.now ≡ last = same_Some c.index.result.now last (sym (read_at runs i c.index.result.now c.index.ensures (omega arith)) ∙ at) in
    let number : last.number ≡ run.number = search (rules, same, c.if-eq.ensures, c.if-eq.true) in
    let begins : last.to ≡ run.from = ap (λ (z : CommentRun). z.to) (sym same) ∙ c.if-last-run.true in
    let long : CommentRun = record { number = last.number; from = last.from; to = run.to } in
    places_longer runs i last long run at (omega arith) number begins c.requires.along refl refl refl c.requires.orderly

pub returns-clause-orderly : goal.returns-clause-orderly
returns-clause-orderly c =
    let run : CommentRun = c.args.run in
    subst AreOrderly (sym c.in_ok-push.ensures.items)
    (orderly_more c.args.runs.now.items run run.number run.from run.to c.requires.orderly c.requires.behind
    (record { number = refl; begins = refl; ends = refl; some = c.requires.some; short = c.requires.short }) c.requires.along)

pub returns-clause-places : goal.returns-clause-places
returns-clause-places c =
    λ n place. subst (λ runs. HasRun runs n place ↔ (HasRun c.args.runs.now.items n place ⊎ ((c.args.run.number ≡ n) × HasPlace c.args.run place))) (sym c.in_ok-push.ensures.items) (places_more c.args.runs.now.items c.args.run n place)
