use Rattle.value_marks.proofs.Both.{join_left, join_right, join_below, join_is}
use Rattle.value_marks.proofs.marks.Marks.join.Goals as goal

pub returns-clause-left : goal.returns-clause-left
returns-clause-left c = λ s. join_left c.args.self.now c.args.other.now _ s (record { registers = c.join_registers.ensures.rule; slots = c.join_slots.ensures.rule })

pub returns-clause-right : goal.returns-clause-right
returns-clause-right c = λ s. join_right c.args.self.now c.args.other.now _ s (record { registers = c.join_registers.ensures.rule; slots = c.join_slots.ensures.rule })

pub returns-clause-below : goal.returns-clause-below
returns-clause-below c = λ k. join_below c.args.self.now c.args.other.now _ k c.join_registers.ensures.size c.join_slots.ensures.size (record { registers = c.join_registers.ensures.rule; slots = c.join_slots.ensures.rule })

pub returns-clause-rule : goal.returns-clause-rule
returns-clause-rule c = λ v w. join_is c.args.self.now c.args.other.now _ v w (record { registers = c.join_registers.ensures.rule; slots = c.join_slots.ensures.rule })
