use Rattle.abstract_state.proofs.BoundTails.{slot_joins}
use Rattle.abstract_state.proofs.join.join_bounded_slot.Goals as goal

pub returns-in_default-clause-joins : goal.returns-in_default-clause-joins
returns-in_default-clause-joins c = slot_joins _ _ _ _ _ c.bounded.ensures.keeps c.bounded-in_default.ensures.keeps c.join-in_default.ensures.joins
