use Rattle.std.proofs.Common.{refl, sym}
use Rattle.abstract_state.specs.Quantity.{Contains}
use Rattle.abstract_state.proofs.Options.{at_some, at_none}
use Rattle.abstract_state.proofs.relation.different.Goals as goal

pub returns-in_err-left-clause-contains : goal.returns-in_err-left-clause-contains
returns-in_err-left-clause-contains c = λ lengths m n a b h.
    absurd (at_none (λ q. Contains q lengths m) _ c.in_err-left.was (c.apart.ensures.contains lengths m n a b h))

pub returns-in_err-right-clause-contains : goal.returns-in_err-right-clause-contains
returns-in_err-right-clause-contains c = λ lengths m n a b h.
    absurd (at_none (λ q. Contains q lengths n) _ c.in_err-right.was (c.apart-2.ensures.contains lengths n m b a (λ e. h (sym e))))

pub returns-clause-contains : goal.returns-clause-contains
returns-clause-contains c = λ lengths m n a b h. (
  _,
  refl,
  at_some (λ q. Contains q lengths m) _ _ c.in_ok-left.was (c.apart.ensures.contains lengths m n a b h),
  at_some (λ q. Contains q lengths n) _ _ c.in_ok-right.was (c.apart-2.ensures.contains lengths n m b a (λ e. h (sym e))),
)
