use Rattle.std.proofs.Common.{◌≤◌, refl, arith}
use Rattle.abstract_state.proofs.Registers.{state_at}
use Rattle.value_marks.specs.Marking.{marking_of}
use Rattle.value_marks.specs.Telling.{teller_of, slot_hears}
use Rattle.value_marks.proofs.Hearing.{each_first, live_on, dead_on, live_flows}
use Rattle.value_marks.proofs.telling.Teller.tell_slots.Goals as goal

pub loop-slot-init : goal.loop-slot-init
loop-slot-init c = record {
  sound = λ lengths origins s tells bears held. held;
  rule = λ was is. (was, each_first (slot_hears (teller_of c.args.self.now) (marking_of c.args.marks.now)) was, is);
}

pub loop-slot-preserved : goal.loop-slot-preserved
loop-slot-preserved c = record {
  sound = λ lengths origins s tells bears held. state_at _ _ lengths s refl (c.in-Live.ensures.sound lengths origins s tells bears (c.loop-slot.invariant.sound lengths origins s tells bears held));
  rule = λ was is.
      let now = c.loop-slot.invariant.rule was is in
      live_on (slot_hears (teller_of c.args.self.now) (marking_of c.args.marks.now)) c.loop-slot.slot was now.0 _ now.1 (c.in-Live.ensures.rule now.0 now.2);
}

pub returns-in-Dead-clause-sound : goal.returns-in-Dead-clause-sound
returns-in-Dead-clause-sound c = λ lengths origins s tells bears held. c.in-Dead.ensures.sound lengths origins s tells bears (c.loop-slot.invariant.sound lengths origins s tells bears held)

pub returns-in-Dead-clause-rule : goal.returns-in-Dead-clause-rule
returns-in-Dead-clause-rule c = λ was is.
    let now = c.loop-slot.invariant.rule was is in
    dead_on (slot_hears (teller_of c.args.self.now) (marking_of c.args.marks.now)) c.loop-slot.slot 64 was now.0 _ now.1 (c.in-Dead.ensures.rule now.0 now.2) c.loop-slot-test.true

pub returns-clause-sound : goal.returns-clause-sound
returns-clause-sound c = λ lengths origins s tells bears held. (_, refl, c.loop-slot.invariant.sound lengths origins s tells bears held)

pub returns-clause-rule : goal.returns-clause-rule
returns-clause-rule c = λ was is.
    let now = c.loop-slot.invariant.rule was is in
    live_flows (slot_hears (teller_of c.args.self.now) (marking_of c.args.marks.now)) c.loop-slot.slot 64 was now.0 _ (let low : 64 ≤ c.loop-slot.slot = c.loop-slot-test.false in omega arith) now.1 now.2
