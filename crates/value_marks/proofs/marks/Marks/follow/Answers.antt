use Rattle.abstract_state.specs.Situation.{situation_of}
use Rattle.value_marks.proofs.Itself.{below_now, bears_now}
use Rattle.value_marks.proofs.marks.Marks.follow.Goals as goal

pub returns-clause-rule : goal.returns-clause-rule
returns-clause-rule c = c.note.ensures

pub returns-clause-below : goal.returns-clause-below
returns-clause-below c = below_now c.args.self.now c.note.new.self (situation_of c.args.known.now) c.args.at c.args.insn.now c.note.ensures c.is_whole.ensures.registers c.is_whole.ensures.slots

pub returns-clause-sound : goal.returns-clause-sound
returns-clause-sound c = λ span s next far. bears_now c.args.self.now c.note.new.self c.args.known.now span s next c.args.at c.args.insn.now far c.note.ensures
