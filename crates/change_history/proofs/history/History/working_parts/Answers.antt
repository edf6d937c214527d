use Rattle.std.proofs.Common.{◌≡◌, ◌∙◌, IfOk, rules, ap, sym, subst}
use Rattle.change_history.specs.Chronicle.{Chronicle}
use Rattle.change_history.specs.Accepted.{operations_of}
use Rattle.change_history.specs.Kept.{Keeps, CanCatchUp}
use Rattle.change_history.proofs.Sizes.{can_catch_up}
use Rattle.change_history.proofs.Chronicle.{kept_copy}
use Rattle.change_history.proofs.history.History.working_parts.Goals as goal

pub catch_up-requires : goal.catch_up-requires
catch_up-requires c =
    (c.self.inside.changes, can_catch_up c.in-Some.spare c.self.invariant.0.accepted c.self.invariant.1 c.self.invariant.2 (sym c.take.ensures.value ∙ c.in-Some.is))

pub returns-in-Ok-clause-kept : goal.returns-in-Ok-clause-kept
returns-in-Ok-clause-kept c =
    let changes = c.self.inside.changes in
    let can : CanCatchUp changes c.self.inside.last c.in-Some.spare = can_catch_up c.in-Some.spare c.self.invariant.0.accepted c.self.invariant.1 c.self.invariant.2 (sym c.take.ensures.value ∙ c.in-Some.is) in
    subst (λ (h : Chronicle). Keeps (operations_of h.changes) c.catch_up.new.parts) c.self.view_is (c.in-Ok.ensures changes can)

pub returns-clause-kept : goal.returns-clause-kept
returns-clause-kept c =
    let same : IfOk c.clone.result (λ p. p ≡ c.self.inside.parts) = search rules in
    kept_copy c.clone.result c.self.inside.parts c.self.inside.changes c.args.self.now.changes (ap (λ (h : Chronicle). h.changes) c.self.view_is) c.self.invariant.0.kept same
