use Rattle.loop_states.proofs.Bearing.{contains_tracked, contains_both}
use Rattle.loop_states.proofs.within.is_within.Goals as goal

pub returns-then-is_within-clause-rule : goal.returns-then-is_within-clause-rule
returns-then-is_within-clause-rule c = (
  λ yes. record { states = c.is_within.ensures.rule.0 c.if-is_within.true; lengths = c.are_lengths_kept.ensures.0 yes },
  λ within. c.are_lengths_kept.ensures.1 within.lengths,
)

pub returns-then-is_within-clause-sound : goal.returns-then-is_within-clause-sound
returns-then-is_within-clause-sound c = λ yes lengths s held.
    contains_both c.args.first.now c.args.second.now lengths s (c.are_lengths_kept.ensures.0 yes) held
    (c.is_within.ensures.sound c.if-is_within.true lengths s (contains_tracked c.args.first.now lengths s held))
