use Rattle.value_marks.proofs.Kept.{bears_kept, flows_kept}
use Rattle.value_marks.proofs.copies.Copies.tell.Goals as goal

pub returns-clause-sound : goal.returns-clause-sound
returns-clause-sound c = λ lengths s bears held.
    c.sides_tell.ensures.sound lengths s (bears_kept c.args.self.now c.in-Some.marks c.deref.result.now s c.in-Some.is c.deref.ensures bears) held

pub returns-clause-rule : goal.returns-clause-rule
returns-clause-rule c = λ was is.
    flows_kept c.args.self.now c.in-Some.marks c.deref.result.now c.args.left c.args.right.now was _ _ c.in-Some.is c.deref.ensures (c.sides_tell.ensures.rule was is)
