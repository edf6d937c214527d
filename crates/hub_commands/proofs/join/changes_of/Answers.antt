use Rattle.std.proofs.Common.{◌≡◌, ◌≢◌, ◌∙◌, ℕ, List, [], sym, ap, subst}
use Rattle.std.proofs.lemmas.Bool.{eqb-true}
use Rattle.change_ops.specs.Changes.{Change}
use Rattle.change_ops.specs.Spelling.{Spells}
use Rattle.hub_commands.proofs.Accepting.{not_empty}
use Rattle.hub_commands.proofs.ReadingChanges.{none_left}
use Rattle.hub_commands.proofs.KeptInputs.{Left, left_begun, left_more, left_done}
use Rattle.hub_commands.proofs.join.changes_of.Goals as goal

pub loop-rest-init : goal.loop-rest-init
loop-rest-init c = record {
  text = c.utf8.text;
  left = λ all limited spelt. left_begun all c.new-changes.result.items c.args.text.now c.new-changes.ensures.items limited spelt;
}

pub loop-rest-preserved : goal.loop-rest-preserved
loop-rest-preserved c =
    let rest = c.loop-rest.rest.now in
    let behind = c.in-Ok.behind.now in
    let change : Change = c.in-Ok.change in
    let some : rest ≢ [] = not_empty rest (sym c.is_empty.ensures ∙ c.loop-rest-test.true) in
    let found : (one : Change) (after : List ℕ) → Spells rest one after → (change ≡ one) × (behind ≡ after) =
    λ one after spells. let same = c.in-Ok.ensures.complete one after spells in (ap (λ (p : Change × List ℕ). p.0) same, ap (λ (p : Change × List ℕ). p.1) same) in
    record {
      text = c.in-Ok.ensures.text;
      left = λ all limited spelt.
          subst (λ (l : List Change). Left all l behind) (sym c.in_ok-push.ensures.items)
          (left_more all c.loop-rest.changes.items change rest behind some found (c.loop-rest.invariant.left all limited spelt));
    }

pub returns : goal.returns
returns c = λ all limited spelt.
    let none : c.loop-rest.rest.now ≡ [] = none_left c.loop-rest.rest.now (eqb-true _ _ (sym c.is_empty.ensures ∙ c.loop-rest-test.false)) in
    left_done all c.loop-rest.changes.items c.loop-rest.rest.now none (c.loop-rest.invariant.left all limited spelt)
