use Rattle.std.proofs.Common.{◌≡◌, ℕ, ◌+◌, ◌-◌, ◌<◌, ◌≤◌, ◌⊎◌, List, Some, inl, inr, length, get_or, sym, ap, refl, ◌∙◌, subst, arith, ⊎_elim}
use Rattle.std.specs.List.{slice_get, Contains}
use Rattle.std.proofs.lemmas.Bool.{cases_lt}
use Rattle.std.proofs.lemmas.Option.{same_Some, slice_get-get_or}
use Rattle.change_ops.specs.declared.attribute.Attribute.TheVariants.{Comment}
use Rattle.change_ops.specs.declared.attribute.Key.TheVariants as key
use Rattle.change_ops.specs.declared.operation.Op.{Op}
use Rattle.mark_anchors.specs.Format.{Bears}
use Rattle.mark_anchors.specs.KeyMarks.{AreStill, AreEnds}
use Rattle.mark_anchors.specs.CommentRuns.{HasPlace, HasRun, IsRun, AreOrderly}
use Rattle.mark_anchors.specs.declared.comment_runs.CommentRun.{CommentRun}
use Rattle.mark_anchors.specs.declared.placed.PlacedMark.{PlacedMark}
use Rattle.mark_anchors.proofs.Running.{some_of}
use Rattle.mark_anchors.proofs.Stretching.{still_between, within_ends}
use Rattle.mark_anchors.proofs.comment_runs.push_runs.Goals.{in-Some+in_ok-push_run, in_default}
use Rattle.mark_anchors.proofs.comment_runs.push_runs.Goals as goal

pub loop-index-init : goal.loop-index-init
loop-index-init c = record {
  orderly = c.requires.orderly;
  up_to = λ run held. let less : run.number < c.args.comment.now.number = c.requires.below run held in omega arith;
  behind = λ run last held at. inl (c.requires.below run held);
  kept = λ n place has. has;
  held = λ es placed held. held;
  covered =
      λ es ops p first last e placed h are at begins ends low high bears.
      let same : first ≡ last = same_Some first last (sym begins ∙ ends) in
      absurd (omega arith);
}

-- what stands before a run that begins at this place ends there
ending : (n place : ℕ) (other : CommentRun) → (other.number < n) ⊎ ((other.number ≡ n) × (other.to ≤ place)) → (later : ℕ) → place ≤ later → (other.number < n) ⊎ ((other.number ≡ n) × (other.to ≤ later))
ending n place other (inl less) later le = inl less
ending n place other (inr (same, ended)) later le = inr (same, omega arith)

pub push_run-requires-clause-behind : goal.push_run-requires-clause-behind
push_run-requires-clause-behind c =
    λ other held.
    let places : List ℕ = c.places-places.result.now in
    let k : ℕ = c.loop-index.index in
    let at : slice_get places k ≡ Some (get_or places k 0) = slice_get-get_or places k 0 (omega arith) in
    let is = c.in-Some.ensures.run in
    ⊎_elim
    (λ (less : other.number < c.args.comment.now.number). let number : c.in-Some.run'.number ≡ c.args.comment.now.number = is.number in inl (omega arith))
    (λ (apart : (other.number ≡ c.args.comment.now.number) × (other.to ≤ get_or places k 0)).
    let ended : other.to ≤ get_or places k 0 = apart.1 in
    let begins : c.in-Some.run'.from ≡ get_or places k 0 = is.begins in
    inr (apart.0 ∙ sym is.number, omega arith))
    (c.loop-index.invariant.behind other (get_or places k 0) held at)

pub loop-index-preserved : goal.loop-index-preserved
loop-index-preserved c =
    let n : ℕ = c.args.comment.now.number in
    let marks : List PlacedMark = c.args.comment.now.marks in
    let operations : List Op = c.args.operations.now in
    let places : List ℕ = c.places-places.result.now in
    let ends : AreEnds marks places = c.places-places.ensures in
    let old : List CommentRun = c.loop-index.runs.items in
    let inv = c.loop-index.invariant in
    let k : ℕ = c.loop-index.index in
    let from : ℕ = get_or places k 0 in
    let to : ℕ = get_or places (k + 1) 0 in
    let within : k + 1 < length places = omega arith in
    let at : slice_get places k ≡ Some from = slice_get-get_or places k 0 (omega arith) in
    let next : slice_get places (k + 1) ≡ Some to = slice_get-get_or places (k + 1) 0 within in
    let order : from < to = ends.rising k within in
    let still : AreStill marks from to = still_between marks places ends k from to at next in
    elim c.match-run_between.branch [
      | in-Some+in_ok-push_run w ↦
          let run : CommentRun = w.in-Some.run' in
          let is : IsRun n from to run = w.in-Some.ensures.run in
          let begins : run.from ≡ from = is.begins in
          let stops : run.to ≡ to = is.ends in
          let number : run.number ≡ n = is.number in
          let pushed = w.in_ok-push_run.ensures in
          let new : List CommentRun = w.push_run.new.runs.items in
          let items : c.match-run_between.runs.items ≡ new = ap (λ v. v.items) w.runs-is in
          record {
            orderly = subst AreOrderly (sym items) pushed.orderly;
            up_to =
                λ other held.
                ⊎_elim
                (λ (before : Contains old other). inv.up_to other before)
                (λ (it : (other.number ≡ run.number) × (other.to ≡ run.to)). let same : other.number ≡ run.number = it.0 in omega arith)
                (pushed.ends other (subst (λ l. Contains l other) items held));
            behind =
                λ other last held g.
                let end : to ≡ last = same_Some to last (sym next ∙ g) in
                ⊎_elim
                (λ (before : Contains old other). ending n from other (inv.behind other from before at) last (omega arith))
                (λ (it : (other.number ≡ run.number) × (other.to ≡ run.to)). let stopped : other.to ≡ run.to = it.1 in inr (it.0 ∙ number, omega arith))
                (pushed.ends other (subst (λ l. Contains l other) items held));
            kept = λ m p has. subst (λ l. HasRun l m p) (sym items) ((pushed.places m p).1 (inl (inv.kept m p has)));
            held =
                λ es placed before ops other p e h are held has here.
                ⊎_elim
                (λ (o : HasRun old other.number p). subst (λ m. Bears ops e (Comment m)) o.2 (inv.held es placed before ops o.0 p e h are o.1 o.3 here))
                (λ (it : (run.number ≡ other.number) × HasPlace run p).
                let low : run.from ≤ p = it.1.0 in
                let high : p < run.to = it.1.1 in
                let bears : Bears ops e (Comment n) = (w.in-Some.ensures.along es ops p e h are placed still (omega arith) (omega arith) here).0 refl in
                subst (λ m. Bears ops e (Comment m)) (sym number ∙ it.0) bears)
                ((pushed.places other.number p).0 (other, subst (λ l. Contains l other) items held, refl, has));
            covered =
                λ es ops p first last e placed h are here first_at g low high bears.
                let end : to ≡ last = same_Some to last (sym next ∙ g) in
                subst (λ l. HasRun l n p) (sym items)
                (⊎_elim
                (λ (before : p < from). (pushed.places n p).1 (inl (inv.covered es ops p first from e placed h are here first_at at low before bears)))
                (λ (on : from ≤ p). (pushed.places n p).1 (inr (number, (omega arith, omega arith))))
                (cases_lt p from));
          }
      | in_default w ↦
          let items : c.match-run_between.runs.items ≡ old = ap (λ v. v.items) w.runs-is in
          record {
            orderly = subst AreOrderly (sym items) inv.orderly;
            up_to = λ other held. inv.up_to other (subst (λ l. Contains l other) items held);
            behind =
                λ other last held g.
                let end : to ≡ last = same_Some to last (sym next ∙ g) in
                ending n from other (inv.behind other from (subst (λ l. Contains l other) items held) at) last (omega arith);
            kept = λ m p has. subst (λ l. HasRun l m p) (sym items) (inv.kept m p has);
            held = λ es placed before ops other p e h are held has here. inv.held es placed before ops other p e h are (subst (λ l. Contains l other) items held) has here;
            covered =
                λ es ops p first last e placed h are here first_at g low high bears.
                let end : to ≡ last = same_Some to last (sym next ∙ g) in
                ⊎_elim
                (λ (before : p < from). subst (λ l. HasRun l n p) (sym items) (inv.covered es ops p first from e placed h are here first_at at low before bears))
                (λ (on : from ≤ p).
                let found = some_of c.run_between.result ((c.run_between.ensures.along es ops p e h are placed still on (omega arith) here).1 bears) in
                absurd (w.in_default.not-Some found.0 found.1))
                (cases_lt p from);
          }
    ]

pub returns : goal.returns
returns c =
    let inv = c.loop-index.invariant in
    record {
      orderly = inv.orderly;
      up_to = inv.up_to;
      kept = inv.kept;
      held = inv.held;
      covered =
          λ es placed ops p e h are here bears.
          let places : List ℕ = c.places-places.result.now in
          let n : ℕ = c.args.comment.now.number in
          let last : c.loop-index.index ≡ length places - 1 = omega arith in
          let r =
          within_ends ops es c.args.operations.now c.args.comment.now.marks (key.Comment n) places p c.loop-index.index e (Comment n) h are placed
          c.places-places.ensures here refl bears last in
          inv.covered es ops p r.0 r.1.0 e placed h are here r.1.1 r.1.2 r.1.3 r.1.4 bears;
    }
