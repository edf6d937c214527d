use Rattle.std.proofs.Common.{◌≡◌, ◌⊎◌, Some, IsSome, refl, sym, subst, ◌∙◌}
use Rattle.std.specs.Prelude.{◌↔◌}
use Rattle.std.specs.List.{Contains}
use Rattle.std.proofs.lemmas.Bool.{false≢true}
use Rattle.change_ops.specs.declared.id.OpId.{OpId}
use Rattle.removal_runs.specs.Open.{Removals, Removes}
use Rattle.removal_runs.proofs.Opening.{taken_back, found_at}
use Rattle.removal_runs.proofs.removals.Removals.take_back.Goals as goal

pub unwrap-target-requires : goal.unwrap-target-requires
unwrap-target-requires c =
    let x = c.requires.0 in
    let there = subst (λ (v : Removals). Removes v c.args.removal x) (sym c.self.view_is) c.requires.1 in
    subst IsSome (sym (c.target_of.ensures.only x there)) refl

pub invariant_of-self-2 : goal.invariant_of-self-2
invariant_of-self-2 c =
    let old : Removals = record { removals = c.self.inside.removals; back = c.self.inside.back } in
    let new : Removals = record { removals = c.self.inside.removals; back = c.insert.new.self } in
    let target = c.unwrap-target.result in
    let removes : Removes old c.args.removal target = found_at _ _ c.target_of.result target c.unwrap-target.ensures c.target_of.ensures.cases in
    taken_back old new c.self.inside.counts c.count_down.new.counts c.args.removal target c.self.invariant refl c.in_ok-insert.ensures.ok
    (λ h. false≢true (sym c.if-has.false ∙ c.has.ensures.1 h)) removes c.count_down.ensures.here c.count_down.ensures.others

pub returns-clause-ok : goal.returns-clause-ok
returns-clause-ok c =
    λ r.
    subst (λ (v : Removals). Contains c.insert.new.self r ↔ (Contains v.back r ⊎ (r ≡ c.args.removal))) c.self.view_is (c.in_ok-insert.ensures.ok r)
