use Rattle.abstract_state.proofs.BoundTails.{register_joins}
use Rattle.abstract_state.proofs.join.join_bounded_register.Goals as goal

pub returns-clause-kinds : goal.returns-clause-kinds
returns-clause-kinds c = register_joins _ _ _ _ _ c.bounded.ensures.keeps c.bounded-2.ensures.keeps c.join_register.ensures.kinds
