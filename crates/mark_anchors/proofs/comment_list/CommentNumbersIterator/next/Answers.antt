use Rattle.std.proofs.Common.{◌≡◌, ℕ, ◌+◌, ◌-◌, ◌<◌, ◌∙◌, List, ◌∷◌, drop, take, length, sym, ap, arith}
use Rattle.mark_anchors.specs.CommentRuns.{numbers_at}
use Rattle.mark_anchors.specs.declared.comment_runs.CommentRun.{CommentRun}
use Rattle.mark_anchors.proofs.Passing.{numbers_rest}
use Rattle.mark_anchors.proofs.comment_list.CommentNumbersIterator.next.Goals as goal

pub invariant_of-self : goal.invariant_of-self
invariant_of-self c =
    let runs : List CommentRun = c.self.inside.runs.now in
    let place : ℕ = c.self.inside.place in
    let k : ℕ = c.in_ok-first.first in
    let run : CommentRun = c.index-self-first.result in
    let rest : List ℕ = numbers_at (take (length runs - (k + 1)) (drop (k + 1) runs)) place in
    let steps : numbers_at runs place ≡ run.number ∷ rest = numbers_rest runs place k run c.index-self-first.is c.in_ok-first.ensures.within c.in_ok-first.ensures.first in
    let whole : length (numbers_at runs place) ≡ length rest + 1 = ap length steps ∙ omega arith in
    let count : c.self.inside.count ≡ length (numbers_at runs place) = c.self.invariant in
    omega arith

pub returns-clause-steps : goal.returns-clause-steps
returns-clause-steps c =
    let runs : List CommentRun = c.self.inside.runs.now in
    let place : ℕ = c.self.inside.place in
    let k : ℕ = c.in_ok-first.first in
    let rest : List ℕ = numbers_at (take (length runs - (k + 1)) (drop (k + 1) runs)) place in
    sym c.self.view_is ∙ numbers_rest runs place k c.index-self-first.result c.index-self-first.is c.in_ok-first.ensures.within c.in_ok-first.ensures.first ∙ ap (λ (z : CommentRun). z.number ∷ rest) c.index-self-first.is

pub returns-clause-goes : goal.returns-clause-goes
returns-clause-goes c =
    let runs : List CommentRun = c.self.inside.runs.now in
    let place : ℕ = c.self.inside.place in
    let k : ℕ = c.in_ok-first.first in
    let run : CommentRun = c.index-self-first.result in
    let rest : List ℕ = numbers_at (take (length runs - (k + 1)) (drop (k + 1) runs)) place in
    let steps : numbers_at runs place ≡ run.number ∷ rest = numbers_rest runs place k run c.index-self-first.is c.in_ok-first.ensures.within c.in_ok-first.ensures.first in
    let whole : length c.args.self.now ≡ length rest + 1 = ap length (sym c.self.view_is ∙ steps) ∙ omega arith in
    let less : length rest < length c.args.self.now = omega arith in
    record {
      on = λ finite. (tt, tt, less);
      keeps = tt;
      rests = λ finite. tt;
    }
