use Rattle.std.proofs.Common.{◌≡◌, ℕ, ◌<◌, ◌≤◌, List, Some, length, get_or, sym, subst, arith, ⊎_elim}
use Rattle.std.specs.List.{slice_get}
use Rattle.std.proofs.lemmas.Bool.{cases_lt}
use Rattle.std.proofs.lemmas.Option.{slice_get_within, slice_get-get_or}
use Rattle.change_ops.specs.declared.attribute.Attribute.TheVariants.{Comment}
use Rattle.change_ops.specs.declared.operation.Op.{Op}
use Rattle.mark_anchors.specs.Format.{Bears}
use Rattle.mark_anchors.specs.Commented.{IsCommentEnd}
use Rattle.mark_anchors.specs.CommentRuns.{HasRun, IsCovered}
use Rattle.mark_anchors.specs.declared.comments.CommentMark.{CommentMark}
use Rattle.mark_anchors.specs.declared.comment_runs.CommentRun.{CommentRun}
use Rattle.mark_anchors.proofs.Commenting.{borne_among}
use Rattle.mark_anchors.proofs.Grouping.{numbers_behind, part_in_range, part_placed}
use Rattle.mark_anchors.proofs.comment_runs.comment_runs.Goals as goal

pub push_comment-requires-clause-placed : goal.push_comment-requires-clause-placed
push_comment-requires-clause-placed c =
    let comments : List CommentMark = c.args.comments.now in
    let k : ℕ = c.loop-index.index in
    let first : CommentMark = get_or comments k c.index-comments-index.result in
    let read : slice_get comments k ≡ Some first = slice_get-get_or comments k c.index-comments-index.result c.loop-index-test.true in
    part_in_range c.requires.0 c.args.operations.now comments c.requires.1 k c.comment_end-end.result c.comment_end-end.ensures first read

pub push_comment-requires-clause-below : goal.push_comment-requires-clause-below
push_comment-requires-clause-below c =
    λ run held.
    let comments : List CommentMark = c.args.comments.now in
    let k : ℕ = c.loop-index.index in
    let first : CommentMark = get_or comments k c.index-comments-index.result in
    let read : slice_get comments k ≡ Some first = slice_get-get_or comments k c.index-comments-index.result c.loop-index-test.true in
    c.loop-index.invariant.below run k first held (omega arith) read

pub loop-index-preserved : goal.loop-index-preserved
loop-index-preserved c =
    let comments : List CommentMark = c.args.comments.now in
    let operations : List Op = c.args.operations.now in
    let k : ℕ = c.loop-index.index in
    let end : ℕ = c.comment_end-end.result in
    let is : IsCommentEnd comments k end = c.comment_end-end.ensures in
    let first : CommentMark = get_or comments k c.index-comments-index.result in
    let read : slice_get comments k ≡ Some first = slice_get-get_or comments k c.index-comments-index.result c.loop-index-test.true in
    let new : List CommentRun = c.push_comment.new.runs.items in
    let pushed = c.in_ok-push_comment.ensures in
    let inv = c.loop-index.invariant in
    let before : (i : ℕ) (d : CommentMark) → i < k → slice_get comments i ≡ Some d → d.number < first.number =
    λ i d less g. inv.before i k d first less (omega arith) g read in
    record {
      within = is.within;
      orderly = pushed.orderly;
      below =
          λ run i d held ge g.
          let up_to : run.number ≤ first.number = pushed.up_to run held in
          let less : first.number < d.number = numbers_behind c.requires.0 operations comments c.requires.1 k end is first read i d ge g in
          omega arith;
      before =
          λ i j d f less ge g h.
          let behind : first.number < f.number = numbers_behind c.requires.0 operations comments c.requires.1 k end is first read j f ge h in
          ⊎_elim
          (λ (old : i < k). let under : d.number < first.number = before i d old g in omega arith)
          (λ (here : k ≤ i). let same : d.number ≡ first.number = is.same i first d here less read g in omega arith)
          (cases_lt i k);
      held = λ es commented. pushed.held es (part_placed es operations comments commented k end is first read before) (inv.held es commented);
      covered =
          λ es i d commented less g.
          ⊎_elim
          (λ (old : i < k). λ ops place e h are at bears. pushed.kept d.number place (inv.covered es i d commented old g ops place e h are at bears))
          (λ (here : k ≤ i).
          subst (λ n. IsCovered es operations new n) (sym (is.same i first d here less read g))
          (pushed.covered es (part_placed es operations comments commented k end is first read before)))
          (cases_lt i k);
    }

pub returns-clause-holding : goal.returns-clause-holding
returns-clause-holding c =
    λ es commented.
    let comments : List CommentMark = c.args.comments.now in
    let operations : List Op = c.args.operations.now in
    let inv = c.loop-index.invariant in
    record {
      held = inv.held es commented;
      covered =
          λ n ops place e h are at bears.
          let i = borne_among ops es operations comments e n are commented bears in
          let d : CommentMark = i.1.0 in
          let within : i.0 < length comments = slice_get_within comments i.0 d i.1.1 in
          let number : d.number ≡ n = i.1.2 in
          let borne : Bears ops e (Comment d.number) = subst (λ z. Bears ops e (Comment z)) (sym number) bears in
          subst (λ m. HasRun c.loop-index.runs.items m place) number
          (inv.covered es i.0 d commented (omega arith) i.1.1 ops place e h are at borne);
    }
