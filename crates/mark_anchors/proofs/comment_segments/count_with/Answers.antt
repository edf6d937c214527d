use Rattle.std.proofs.Common.{◌≡◌, ℕ, ◌+◌, List, length, arith}
use Rattle.mark_anchors.specs.CommentRuns.{numbers_at}
use Rattle.mark_anchors.specs.CommentLists.{begin_of, end_of, count_up_to}
use Rattle.mark_anchors.specs.declared.comment_runs.CommentRun.{CommentRun}
use Rattle.mark_anchors.proofs.Counting.{count_of_table}
use Rattle.mark_anchors.proofs.comment_segments.count_with.Goals as goal

pub overflow_sub-result : goal.overflow_sub-result
overflow_sub-result c =
    let runs : List CommentRun = c.requires.0 in
    let begins : List CommentRun = c.args.begins.now in
    let ends : List CommentRun = c.args.ends.now in
    let place : ℕ = c.args.place in
    let begun : c.begun_up_to.result ≡ count_up_to begin_of begins place = c.begun_up_to.ensures.count in
    let ended : c.ended_up_to.result ≡ count_up_to end_of ends place = c.ended_up_to.ensures.count in
    let all : length (numbers_at runs place) + count_up_to end_of ends place ≡ count_up_to begin_of begins place = count_of_table runs begins ends place c.requires.1 in
    omega arith

pub returns : goal.returns
returns c =
    λ runs table.
    let begins : List CommentRun = c.args.begins.now in
    let ends : List CommentRun = c.args.ends.now in
    let place : ℕ = c.args.place in
    let begun : c.begun_up_to.result ≡ count_up_to begin_of begins place = c.begun_up_to.ensures.count in
    let ended : c.ended_up_to.result ≡ count_up_to end_of ends place = c.ended_up_to.ensures.count in
    let all : length (numbers_at runs place) + count_up_to end_of ends place ≡ count_up_to begin_of begins place = count_of_table runs begins ends place table in
    omega arith
