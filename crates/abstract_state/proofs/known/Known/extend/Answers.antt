use Rattle.semantics.specs.Value.{extended}
use Rattle.abstract_state.proofs.known.Known.extend.Goals as goal

pub returns-clause-sound : goal.returns-clause-sound
returns-clause-sound c = λ lengths x k.
    c.in_ok-known.ensures.sound lengths x (extended c.args.extension x) k (c.width_of.ensures.fits x)
