use Rattle.std.proofs.Common.{refl}
use Rattle.abstract_state.proofs.Registers.{state_at}
use Rattle.value_marks.specs.Marking.{marking_of}
use Rattle.value_marks.specs.Telling.{teller_of, each, slot_hears, register_hears, all_hear}
use Rattle.value_marks.proofs.Hearing.{then_live, then_dead}
use Rattle.value_marks.proofs.telling.Teller.tell.Goals as goal

pub returns-in-Live-clause-sound : goal.returns-in-Live-clause-sound
returns-in-Live-clause-sound c = λ lengths origins s tells bears held.
    c.tell_slots.ensures.sound lengths origins s tells bears (state_at _ _ lengths s refl (c.in-Live.ensures.sound lengths origins s tells bears held))

pub returns-in-Live-clause-rule : goal.returns-in-Live-clause-rule
unfolding all_hear
returns-in-Live-clause-rule c = λ was is.
    then_live (each (register_hears (teller_of c.args.self.now) (marking_of c.args.marks.now)) 11 was) (each (slot_hears (teller_of c.args.self.now) (marking_of c.args.marks.now)) 64) _ _ _ (c.in-Live.ensures.rule was is) c.tell_slots.ensures.rule

pub returns-in-Dead-clause-rule : goal.returns-in-Dead-clause-rule
unfolding all_hear
returns-in-Dead-clause-rule c = λ was is.
    then_dead (each (register_hears (teller_of c.args.self.now) (marking_of c.args.marks.now)) 11 was) (each (slot_hears (teller_of c.args.self.now) (marking_of c.args.marks.now)) 64) _ _ (c.in-Dead.ensures.rule was is)
