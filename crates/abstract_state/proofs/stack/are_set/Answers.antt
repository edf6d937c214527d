use Rattle.std.proofs.Common.{◌≡◌, ◌<◌, ◌≤◌, ◌+◌, ℕ, true, false, refl, sym, ◌∙◌, subst, ⊎_elim, arith, rules}
use Rattle.std.proofs.lemmas.Bool.{cases_lt}
use Rattle.std.specs.Bool.{IsTrue}
use Rattle.abstract_state.specs.State.{HasByte}
use Rattle.abstract_state.specs.Stacks.{slots_of, are_set}
use Rattle.abstract_state.proofs.Stored.{are_set_more, one_unset, both_true}
use Rattle.abstract_state.proofs.stack.are_set.Goals as goal

pub loop-j-preserved : goal.loop-j-preserved
loop-j-preserved c = record {
  bytes = λ lengths bytes k s h.
      ⊎_elim
      (λ (less : k < c.loop-j.j). c.loop-j.invariant.bytes lengths bytes k s less)
      (λ (most : c.loop-j.j ≤ k).
      let same : c.loop-j.j ≡ k = omega arith in
      let yes : IsTrue c.is_set.result = search rules in
      subst (λ (i : ℕ). HasByte bytes (c.args.offset + i)) same (c.is_set.ensures.contains yes lengths bytes s))
      (cases_lt k c.loop-j.j);
  rule =
      let yes : c.is_set.result ≡ true = search rules in
      both_true _ _ _ c.loop-j.invariant.rule (sym c.is_set.ensures.rule ∙ yes) (are_set_more (slots_of c.args.slots.now) c.args.offset c.loop-j.j);
}

pub loop-j-init : goal.loop-j-init
unfolding are_set
loop-j-init c = record { bytes = λ lengths bytes k s h. absurd (omega arith); rule = refl }

pub returns-clause-contains : goal.returns-clause-contains
returns-clause-contains c = λ _ lengths bytes s j h. c.loop-j.invariant.bytes lengths bytes j s (omega (arith, c.loop-j-test.false))

pub returns-then-not-is_set-clause-rule : goal.returns-then-not-is_set-clause-rule
returns-then-not-is_set-clause-rule c =
    let no : c.is_set.result ≡ false = search rules in
    let within : c.loop-j.j < c.args.count = omega (arith, c.loop-j-test.true) in
    sym (one_unset (slots_of c.args.slots.now) c.args.offset c.loop-j.j c.args.count within (sym c.is_set.ensures.rule ∙ no))
