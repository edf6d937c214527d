use Rattle.std.proofs.Common.{◌≡◌, ℕ, ◌+◌, ◌-◌, ◌<◌, ◌∙◌, List, length, ap, arith}
use Rattle.std.specs.Prelude.{◌^◌}
use Rattle.mark_anchors.specs.CommentRuns.{numbers_at}
use Rattle.mark_anchors.specs.CommentLists.{begin_of, end_of, count_up_to}
use Rattle.mark_anchors.specs.declared.comment_runs.CommentRun.{CommentRun}
use Rattle.mark_anchors.proofs.Counting.{count_of_table, few_at}
use Rattle.mark_anchors.proofs.comment_table.CommentTable.count_at.Goals as goal

pub overflow_sub-result : goal.overflow_sub-result
overflow_sub-result c =
    let runs : List CommentRun = c.self.inside.runs.items in
    let place : ℕ = c.args.place in
    let begins : List CommentRun = c.self.inside.begins.items in
    let ends : List CommentRun = c.self.inside.ends.items in
    let begun : c.begun_near-begun.result ≡ count_up_to begin_of begins place = c.begun_near-begun.ensures.count ∙ ap (λ (l : List CommentRun). count_up_to begin_of l place) c.deref.ensures.value in
    let ended : c.ended_near-ended.result ≡ count_up_to end_of ends place = c.ended_near-ended.ensures.count ∙ ap (λ (l : List CommentRun). count_up_to end_of l place) c.deref-2.ensures.value in
    let all : length (numbers_at runs place) + count_up_to end_of ends place ≡ count_up_to begin_of begins place = count_of_table runs begins ends place c.self.invariant.0 in
    omega arith

pub overflow_cast-result : goal.overflow_cast-result
overflow_cast-result c =
    let runs : List CommentRun = c.self.inside.runs.items in
    let place : ℕ = c.args.place in
    let begins : List CommentRun = c.self.inside.begins.items in
    let ends : List CommentRun = c.self.inside.ends.items in
    let begun : c.begun_near-begun.result ≡ count_up_to begin_of begins place = c.begun_near-begun.ensures.count ∙ ap (λ (l : List CommentRun). count_up_to begin_of l place) c.deref.ensures.value in
    let ended : c.ended_near-ended.result ≡ count_up_to end_of ends place = c.ended_near-ended.ensures.count ∙ ap (λ (l : List CommentRun). count_up_to end_of l place) c.deref-2.ensures.value in
    let all : length (numbers_at runs place) + count_up_to end_of ends place ≡ count_up_to begin_of begins place = count_of_table runs begins ends place c.self.invariant.0 in
    let few : length (numbers_at runs place) < 2 ^ 32 = few_at runs place c.self.invariant.0.orderly in
    omega arith

pub returns : goal.returns
returns c =
    let runs : List CommentRun = c.self.inside.runs.items in
    let place : ℕ = c.args.place in
    let begins : List CommentRun = c.self.inside.begins.items in
    let ends : List CommentRun = c.self.inside.ends.items in
    let begun : c.begun_near-begun.result ≡ count_up_to begin_of begins place = c.begun_near-begun.ensures.count ∙ ap (λ (l : List CommentRun). count_up_to begin_of l place) c.deref.ensures.value in
    let ended : c.ended_near-ended.result ≡ count_up_to end_of ends place = c.ended_near-ended.ensures.count ∙ ap (λ (l : List CommentRun). count_up_to end_of l place) c.deref-2.ensures.value in
    let all : length (numbers_at runs place) + count_up_to end_of ends place ≡ count_up_to begin_of begins place = count_of_table runs begins ends place c.self.invariant.0 in
    let count : c.begun_near-begun.result - c.ended_near-ended.result ≡ length (numbers_at runs place) = omega arith in
    count ∙ ap (λ (rs : List CommentRun). length (numbers_at rs place)) c.self.view_is
