use Rattle.std.proofs.Common.{refl}
use Rattle.abstract_state.specs.State.{bytes_of}
use Rattle.abstract_state.specs.Addresses.{content_of}
use Rattle.abstract_state.proofs.Edges.{raised_flows}
use Rattle.value_marks.specs.Telling.{fill}
use Rattle.value_marks.proofs.Taught.{shows_slot}
use Rattle.value_marks.proofs.telling.note_slot.Goals as goal

pub returns-clause-sound : goal.returns-clause-sound
returns-clause-sound c = λ lengths s n held number k.
    c.raise.ensures.sound lengths s n (record {
      eleven = held.eleven;
      long = held.long;
      bounds = held.bounds;
      registers = held.registers;
      stack = c.spill.ensures.contains lengths (bytes_of s.stack) (bytes_of s.stack) n held.stack k number (λ j outside. refl);
    }) k

pub returns-clause-rule : goal.returns-clause-rule
returns-clause-rule c = λ was is.
    raised_flows (content_of c.args.known) _ c.raise.new.state (fill c.args.slot (content_of c.args.known) was) c.raise.result
    (shows_slot c.args.state.now was c.spill.new.slots c.args.slot c.args.known c.spill.ensures.rule is) c.raise.ensures.rule
