use Rattle.state_inclusion.proofs.inclusion.follows.Goals as goal

pub returns-then-is_situation_within : goal.returns-then-is_situation_within
returns-then-is_situation_within c = (
  λ yes. record { situation = c.is_situation_within.ensures.0 c.if-is_situation_within.true; marks = c.are_marks_within.ensures.0 yes },
  λ within. c.are_marks_within.ensures.1 within.marks,
)
