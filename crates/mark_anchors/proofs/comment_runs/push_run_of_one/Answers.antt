use Rattle.std.proofs.Common.{◌≡◌, ◌<◌, ◌≤◌, ℕ, List, inl, inr, refl, sym, ◌∙◌, subst, arith, ⊎_elim}
use Rattle.std.specs.List.{Contains}
use Rattle.change_ops.specs.declared.attribute.Attribute.TheVariants.{Comment}
use Rattle.mark_anchors.specs.Format.{Bears}
use Rattle.mark_anchors.specs.CommentRuns.{HasPlace, HasRun, IsRun}
use Rattle.mark_anchors.specs.declared.comment_runs.CommentRun.{CommentRun}
use Rattle.mark_anchors.specs.declared.placed.PlacedMark.{PlacedMark}
use Rattle.mark_anchors.proofs.Running.{some_of}
use Rattle.mark_anchors.proofs.comment_runs.push_run_of_one.Goals as goal

pub push_run-requires-clause-behind : goal.push_run-requires-clause-behind
push_run-requires-clause-behind c =
    λ other held.
    let less : other.number < c.args.number = c.requires.below other held in
    let number : c.in-Some.run'.number ≡ c.args.number = c.in-Some.ensures.run.number in
    inl (omega arith)

pub returns-in_ok-push_run : goal.returns-in_ok-push_run
returns-in_ok-push_run c =
    let n : ℕ = c.args.number in
    let mark : PlacedMark = c.args.mark.now in
    let run : CommentRun = c.in-Some.run' in
    let is : IsRun n mark.start mark.end run = c.in-Some.ensures.run in
    let number : run.number ≡ n = is.number in
    let begins : run.from ≡ mark.start = is.begins in
    let stops : run.to ≡ mark.end = is.ends in
    let old : List CommentRun = c.args.runs.now.items in
    let pushed = c.in_ok-push_run.ensures in
    record {
      orderly = pushed.orderly;
      up_to =
          λ other held.
          ⊎_elim
          (λ (before : Contains old other). let less : other.number < n = c.requires.below other before in omega arith)
          (λ (it : (other.number ≡ run.number) × (other.to ≡ run.to)). let same : other.number ≡ run.number = it.0 in omega arith)
          (pushed.ends other held);
      kept = λ m p has. (pushed.places m p).1 (inl has);
      held =
          λ es placed before ops other p e h are held has here.
          ⊎_elim
          (λ (o : HasRun old other.number p). subst (λ m. Bears ops e (Comment m)) o.2 (before ops o.0 p e h are o.1 o.3 here))
          (λ (it : (run.number ≡ other.number) × HasPlace run p).
          let low : run.from ≤ p = it.1.0 in
          let high : p < run.to = it.1.1 in
          let bears : Bears ops e (Comment n) = (c.in-Some.ensures.holding es ops p e h are placed here).1 (refl, (omega arith, omega arith)) in
          subst (λ m. Bears ops e (Comment m)) (sym number ∙ it.0) bears)
          ((pushed.places other.number p).0 (other, held, refl, has));
      covered =
          λ es placed ops p e h are here bears.
          let r = (c.in-Some.ensures.holding es ops p e h are placed here).0 bears in
          let low : mark.start ≤ p = r.1.0 in
          let high : p < mark.end = r.1.1 in
          (pushed.places n p).1 (inr (number, (omega arith, omega arith)));
    }

pub returns-in_default : goal.returns-in_default
returns-in_default c = record {
  orderly = c.requires.orderly;
  up_to = λ run held. let less : run.number < c.args.number = c.requires.below run held in omega arith;
  kept = λ m p has. has;
  held = λ es placed before. before;
  covered =
      λ es placed ops p e h are here bears.
      let found = some_of c.run_of_one.result ((c.run_of_one.ensures.holding es ops p e h are placed here).0 bears).0 in
      absurd (c.in_default.not-Some found.0 found.1);
}
