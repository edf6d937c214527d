use Rattle.std.proofs.Common.{◌<◌, length, arith}
use Rattle.abstract_state.specs.Addresses.{content_of}
use Rattle.abstract_state.specs.Situation.{put}
use Rattle.abstract_state.proofs.Edges.{raised_flows}
use Rattle.value_marks.proofs.Taught.{registers_with, shows_register}
use Rattle.value_marks.proofs.telling.note_register.Goals as goal

pub returns-clause-sound : goal.returns-clause-sound
returns-clause-sound c = λ lengths s n held there k.
    let within : c.args.register < length c.args.state.now.registers = omega (arith, c.requires) in
    c.raise.ensures.sound lengths s n (record {
      eleven = held.eleven;
      long = held.long;
      bounds = held.bounds;
      registers = registers_with c.args.state.now.registers s lengths c.args.register n c.args.known within held.registers there k;
      stack = held.stack;
    }) k

pub returns-clause-rule : goal.returns-clause-rule
returns-clause-rule c = λ was is.
    let within : c.args.register < length c.args.state.now.registers = omega (arith, c.requires) in
    raised_flows (content_of c.args.known) _ c.raise.new.state (put c.args.register (content_of c.args.known) was) c.raise.result
    (shows_register c.args.state.now was c.args.register c.args.known within is) c.raise.ensures.rule
