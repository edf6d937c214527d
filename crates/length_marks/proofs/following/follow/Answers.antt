use Rattle.length_marks.proofs.Followed.{follows}
use Rattle.length_marks.proofs.following.follow.Goals as goal

pub returns-clause-sound : goal.returns-clause-sound
returns-clause-sound c = λ span s next far. follows c.args.marks.now c.note.new.marks c.args.known.now span s next c.args.at c.args.insn.now far (λ w is. c.note.ensures _ (c.drop_name.ensures w is))
