use Rattle.std.proofs.Common.{subst, refl, ℕ}
use Rattle.abstract_state.specs.Quantity.{Contains}
use Rattle.abstract_state.proofs.Widths.{full_is}
use Rattle.abstract_state.proofs.quantity.Quantity.cut_to.Goals as goal

pub returns-in-Full-clause-contains : goal.returns-in-Full-clause-contains
returns-in-Full-clause-contains c = λ lengths x a.
    (c.args.self, refl, subst (λ (n : ℕ). Contains c.args.self lengths n) (full_is c.args.width x c.in-Full.is a.bits.fits) a)

pub returns-in-Narrow-clause-contains : goal.returns-in-Narrow-clause-contains
returns-in-Narrow-clause-contains c = λ lengths x a. c.finish.ensures.contains lengths x a.bits a.range a.tails
