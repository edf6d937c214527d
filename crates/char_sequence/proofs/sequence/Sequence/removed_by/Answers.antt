use Rattle.std.proofs.Common.{MatchOption, sym, subst}
use Rattle.change_ops.specs.declared.id.OpId.{OpId}
use Rattle.removal_runs.specs.Open.{Removes}
use Rattle.char_sequence.specs.Held.{Sequence}
use Rattle.char_sequence.proofs.sequence.Sequence.removed_by.Goals as goal

pub returns-clause-cases : goal.returns-clause-cases
returns-clause-cases c =
    subst (λ (v : Sequence). MatchOption c.target_of.result ((x : OpId) → Removes v.removals c.args.removal x → ⊥) (Removes v.removals c.args.removal)) c.self.view_is c.target_of.ensures.cases

pub returns-clause-only : goal.returns-clause-only
returns-clause-only c =
    λ x h. c.target_of.ensures.only x (subst (λ (v : Sequence). Removes v.removals c.args.removal x) (sym c.self.view_is) h)
