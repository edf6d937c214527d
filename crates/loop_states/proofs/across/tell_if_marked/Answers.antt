use Rattle.value_marks.specs.Marking.{marking_of}
use Rattle.length_marks.proofs.Differences.{borne}
use Rattle.loop_states.proofs.Bearing.{bear_boxed}
use Rattle.loop_states.proofs.Landing.{flows_marked}
use Rattle.loop_states.proofs.across.tell_if_marked.Goals as goal

pub returns-clause-sound : goal.returns-clause-sound
returns-clause-sound c = λ lengths s bears held.
    c.both_sides_tell.ensures.sound lengths s
    (borne lengths (marking_of c.deref.result.now) s (bear_boxed lengths c.args.copies.now.marks c.in-Some.marks c.deref.result.now s c.in-Some.is c.deref.ensures bears)) held

pub returns-clause-rule : goal.returns-clause-rule
returns-clause-rule c = λ was is.
    flows_marked c.args.copies.now c.in-Some.marks c.deref.result.now c.args.left c.args.right.now was _ _ c.in-Some.is c.deref.ensures (c.both_sides_tell.ensures.rule was is)
