use Rattle.std.proofs.Common.{◌≡◌, true}
use Rattle.loop_check.proofs.Bounds.{is_bound, bound_form, bound_less}
use Rattle.loop_check.proofs.check.is_bound.Goals as goal

pub returns-then-has_form : goal.returns-then-has_form
returns-then-has_form c = (
  λ yes. is_bound c.args.potential.now c.args.bound.now (c.has_form.ensures.0 c.if-has_form.true)
      (c.weigh_nothing.ensures.0 yes),
  λ e. c.weigh_nothing.ensures.1 (bound_less c.args.potential.now c.args.bound.now e),
)

pub returns-else-has_form : goal.returns-else-has_form
returns-else-has_form c = (
  λ yes.
      let holds : c.has_form.result ≡ true = yes in
      absurd (cc (c.if-has_form.false, holds)),
  λ e. c.has_form.ensures.1 (bound_form c.args.potential.now c.args.bound.now e),
)
