use Rattle.std.proofs.Common.{MatchOption, sym, subst}
use Rattle.change_ops.specs.declared.id.OpId.{OpId}
use Rattle.removal_runs.specs.Open.{Removals, Removes}
use Rattle.removal_runs.proofs.removals.Removals.target_of.Goals as goal

pub returns-clause-cases : goal.returns-clause-cases
returns-clause-cases c =
    subst (λ (v : Removals). MatchOption c.target_of.result ((x : OpId) → Removes v c.args.removal x → ⊥) (Removes v c.args.removal)) c.self.view_is c.target_of.ensures.cases

pub returns-clause-only : goal.returns-clause-only
returns-clause-only c =
    λ x h. c.target_of.ensures.only x (subst (λ (v : Removals). Removes v c.args.removal x) (sym c.self.view_is) h)
