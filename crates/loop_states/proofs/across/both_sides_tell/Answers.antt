use Rattle.std.proofs.Common.{refl}
use Rattle.abstract_state.proofs.Registers.{state_at}
use Rattle.value_marks.specs.Marking.{marking_of}
use Rattle.value_marks.proofs.Hearing.{then_live, then_dead}
use Rattle.loop_states.specs.Across.{side_tells, other_side_tells, both_sides_tell}
use Rattle.loop_states.proofs.across.both_sides_tell.Goals as goal

pub returns-in-Live-clause-sound : goal.returns-in-Live-clause-sound
returns-in-Live-clause-sound c = λ lengths s bears held.
    c.other_side_tells.ensures.sound lengths s bears (state_at _ _ lengths s refl (c.in-Live.ensures.sound lengths s bears held))

pub returns-in-Live-clause-rule : goal.returns-in-Live-clause-rule
unfolding both_sides_tell
returns-in-Live-clause-rule c = λ was is.
    then_live (side_tells c.args.left (marking_of c.args.marks.now) was) (other_side_tells c.args.right.now (marking_of c.args.marks.now)) _ _ _ (c.in-Live.ensures.rule was is) c.other_side_tells.ensures.rule

pub returns-in-Dead-clause-rule : goal.returns-in-Dead-clause-rule
unfolding both_sides_tell
returns-in-Dead-clause-rule c = λ was is.
    then_dead (side_tells c.args.left (marking_of c.args.marks.now) was) (other_side_tells c.args.right.now (marking_of c.args.marks.now)) _ _ (c.in-Dead.ensures.rule was is)
