use Rattle.std.proofs.Common.{◌<◌, None, length, arith}
use Rattle.abstract_state.specs.declared.state.AbsReg.TheVariants.{Unset}
use Rattle.value_marks.proofs.Taught.{register_number, reread}
use Rattle.loop_states.proofs.across.side_tells.Goals as goal

pub returns-clause-sound : goal.returns-clause-sound
returns-clause-sound c = λ lengths s bears held.
    let r = c.args.register in
    let h : r < 11 = omega (arith, c.index.ensures.value, c.index.ensures.small) in
    let within : c.index-2.result < length c.args.state.now.registers = omega (arith, c.index-2.ensures.small) in
    let among : c.index.result < length c.args.marks.now.registers = omega (arith, c.index.ensures.small) in
    let is = reread c.args.state.now.registers c.index-2.result r _ Unset _ c.index-2.ensures.value within c.in-Set.is in
    let mark = reread c.args.marks.now.registers c.index.result r _ None _ c.index.ensures.value among c.in-Some.is in
    let n = register_number c.args.state.now lengths s r c.in-Set.known h is held in
    c.content_tells.ensures.sound lengths bears.0 s n.0 bears.1 held n.1 n.2 (bears.1.registers r h c.in-Some.mark n.0 mark n.1)
