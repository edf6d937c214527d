use Rattle.semantics.specs.Value.{cut, negated}
use Rattle.abstract_state.proofs.Steps.{negated_fits}
use Rattle.abstract_state.proofs.known.Known.negate.Goals as goal

pub returns-clause-sound : goal.returns-clause-sound
returns-clause-sound c = λ lengths x k.
    c.in_ok-known.ensures.sound lengths x (negated c.args.width (cut c.args.width x)) k (negated_fits c.args.width (cut c.args.width x))
