use Rattle.std.proofs.Common.{◌≡◌, ◌+◌, List, ◌∷◌, ◌∙◌, get_or, drop, length, sym, ap, arith}
use Rattle.std.proofs.lemmas.Bool.{false≢true}
use Rattle.std.proofs.lemmas.Option.{slice_get-get_or}
use Rattle.mark_anchors.specs.CommentRuns.{numbers_at}
use Rattle.mark_anchors.specs.declared.comment_runs.CommentRun.{CommentRun}
use Rattle.mark_anchors.proofs.comment_list.are_passed.Goals as goal

pub returns-in-Some : goal.returns-in-Some
returns-in-Some c =
    let runs : List CommentRun = c.args.runs.now in
    let none : CommentRun = record { number = 0; from = 0; to = 0 } in
    let run : CommentRun = get_or runs c.in-Some._next none in
    let more : numbers_at (drop c.args.from runs) c.args.place ≡ run.number ∷ numbers_at (drop (c.in-Some._next + 1) runs) c.args.place = c.in-Some.ensures.next run (slice_get-get_or runs c.in-Some._next none c.in-Some.ensures.within) in (
      λ no. absurd (false≢true no),
      λ empty.
          let size : length (numbers_at (drop (c.in-Some._next + 1) runs) c.args.place) + 1 ≡ 0 = search (ap length (sym more ∙ empty)) in
          absurd (omega arith),
    )
