use Rattle.std.proofs.Common.{◌≡◌, ◌<◌, ◌≤◌, MatchOption, sym, subst, ◌∙◌, arith}
use Rattle.std.proofs.lemmas.Bool.{false≢true}
use Rattle.change_ops.specs.declared.id.OpId.{OpId}
use Rattle.removal_runs.specs.Open.{Removals, Removes, IsOnlyOpen}
use Rattle.removal_runs.proofs.Opening.{not_alone, is_alone}
use Rattle.removal_runs.proofs.removals.Removals.shows.Goals as goal

pub returns-in_err-target : goal.returns-in_err-target
returns-in_err-target c =
    let r = c.args.removal in
    subst (λ found. MatchOption found ((x : OpId) → IsOnlyOpen c.args.self.now r x → ⊥) (IsOnlyOpen c.args.self.now r)) (sym c.from_residual.ensures)
    (λ x alone. c.in_err-target.ensures.cases x (subst (λ (v : Removals). Removes v r x) (sym c.self.view_is) alone.removes))

pub returns-then-count_of-gt1 : goal.returns-then-count_of-gt1
returns-then-count_of-gt1 c =
    λ x alone.
    let many = c.if-count_of-gt1.true in
    let more : 1 < c.count_of.result = grind (arith, many) in
    not_alone _ _ c.self.invariant c.args.removal c.in_ok-target.target x c.count_of.result c.in_ok-target.ensures.cases c.count_of.ensures more
    (subst (λ (v : Removals). IsOnlyOpen v c.args.removal x) (sym c.self.view_is) alone)

pub returns-else-count_of-gt1 : goal.returns-else-count_of-gt1
returns-else-count_of-gt1 c =
    let few = c.if-count_of-gt1.false in
    let low : c.count_of.result ≤ 1 = grind (arith, few) in
    subst (λ (v : Removals). IsOnlyOpen v c.args.removal c.in_ok-target.target) c.self.view_is
    (is_alone _ _ c.self.invariant c.args.removal c.in_ok-target.target c.count_of.result c.in_ok-target.ensures.cases (λ h. false≢true (sym c.if-has.false ∙ c.has.ensures.1 h)) c.count_of.ensures low)
