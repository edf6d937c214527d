use Rattle.std.proofs.Common.{refl, subst}
use Rattle.semantics.specs.Value.{cut}
use Rattle.abstract_state.specs.declared.known.Known.{Known}
use Rattle.abstract_state.specs.Known.{ContainsKnown}
use Rattle.abstract_state.specs.Quantity.{Contains}
use Rattle.abstract_state.proofs.Options.{at_none}
use Rattle.abstract_state.proofs.known.Known.replaced.Goals as goal

pub returns-in_default-cut_to-clause-sound : goal.returns-in_default-cut_to-clause-sound
returns-in_default-cut_to-clause-sound c = λ lengths x y k f.
    let a = subst (λ (v : Known). ContainsKnown v lengths x) c.in-Number.is k in
    absurd (at_none (λ q. Contains q lengths (cut c.args.width x)) _ c.in_default-cut_to.is (c.cut_to.ensures.contains lengths x a))

pub returns-clause-sound : goal.returns-clause-sound
returns-clause-sound c = λ lengths x y k f. (_, refl, c.unknown.ensures.contains lengths y f)
