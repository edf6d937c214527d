use Rattle.std.proofs.Common.{◌+◌, refl, sym, ap, ◌∙◌, subst}
use Rattle.abstract_state.specs.declared.region.Region.{Region}
use Rattle.abstract_state.specs.declared.known.Known.{Known}
use Rattle.abstract_state.specs.declared.known.Known.TheVariants.{Lent}
use Rattle.abstract_state.specs.Lent.{base_of}
use Rattle.abstract_state.specs.Known.{ContainsKnown}
use Rattle.abstract_state.specs.Bounded.{KeepsKnown}
use Rattle.abstract_state.proofs.known.Known.bounded.Goals as goal

pub returns-in-Lent-clause-contains : goal.returns-in-Lent-clause-contains
returns-in-Lent-clause-contains c = λ lengths x long k.
    let at = subst (λ (v : Known). ContainsKnown v lengths x) c.in-Lent.is k in
    (at.0, at.1 ∙ ap (λ (r : Region). base_of r + at.0) (sym c.bounded.ensures.keeps.region), c.bounded.ensures.contains lengths at.0 long at.2)

pub returns-in-Lent-clause-keeps : goal.returns-in-Lent-clause-keeps
returns-in-Lent-clause-keeps c =
    subst (λ (v : Known). KeepsKnown v (Lent c.bounded.result)) (sym c.in-Lent.is)
    (c.bounded.result, refl, c.bounded.ensures.keeps)
