use Rattle.std.proofs.Common.{◌<◌, arith}
use Rattle.abstract_state.specs.State.{with_register}
use Rattle.abstract_state.specs.Addresses.{content_of}
use Rattle.value_marks.specs.Marking.{marking_of}
use Rattle.value_marks.proofs.Itself.{itself}
use Rattle.loop_states.proofs.ToldAs.{bears_as, told_back, told_flows}
use Rattle.loop_states.proofs.across.tell_as.Goals as goal

pub returns-clause-sound : goal.returns-clause-sound
returns-clause-sound c = λ lengths origins s n bears held there was (v, stands, agrees).
    let r = c.args.teller.register in
    let marks = c.args.marks.now in
    told_back c.sides_tell-flow.result c.sides_tell-flow.new.state c.put-2.new.self lengths s r v n there
    (λ inside. c.put-2.ensures.contains lengths (with_register s r v) n inside was)
    (c.sides_tell-flow.ensures.sound lengths (with_register s r v)
    (origins, bears_as marks c.set_register.new.self origins s r v c.args.teller.mark (c.set_register.ensures (marking_of marks) (itself marks)) held.eleven bears agrees)
    (c.put.ensures.contains lengths s v held stands))

pub returns-clause-rule : goal.returns-clause-rule
returns-clause-rule c = λ was is.
    let r = c.args.teller.register in
    let marks = c.args.marks.now in
    let below : r < 11 = omega arith in
    told_flows c.args.state.now c.put.new.self c.sides_tell-flow.new.state c.put-2.new.self marks c.set_register.new.self r _ c.args.teller.mark (content_of c.args.teller.known) (content_of c.args.held) c.sides_tell-flow.result was
    below (c.set_register.ensures (marking_of marks) (itself marks)) is c.put.ensures.rule c.sides_tell-flow.ensures.rule c.put-2.ensures.rule
