use Rattle.std.proofs.Common.{◌<◌, None, length, refl, arith}
use Rattle.abstract_state.specs.declared.state.AbsReg.TheVariants.{Unset}
use Rattle.value_marks.proofs.Taught.{register_number, reread}
use Rattle.value_marks.proofs.telling.Teller.tell_register.Goals as goal

pub returns-in-More-clause-sound : goal.returns-in-More-clause-sound
returns-in-More-clause-sound c = λ lengths origins s tells bears held.
    let i = c.args.register in
    let within : i < length c.args.state.now.registers = omega (arith, c.requires) in
    let among : i < length c.args.marks.now.registers = omega (arith, c.requires) in
    let is = reread c.args.state.now.registers i i _ Unset _ refl within c.in-Set.is in
    let r = register_number c.args.state.now lengths s i c.in-Set.known c.requires is held in
    let more = c.in-More.ensures.sound lengths origins r.0 tells r.2 (λ m e. bears.registers i c.requires m r.0 (reread c.args.marks.now.registers i i _ None _ refl among e) r.1) in
    c.note_register.ensures.sound lengths s r.0 held r.1 more

pub returns-in-Never-clause-sound : goal.returns-in-Never-clause-sound
returns-in-Never-clause-sound c = λ lengths origins s tells bears held.
    let i = c.args.register in
    let within : i < length c.args.state.now.registers = omega (arith, c.requires) in
    let among : i < length c.args.marks.now.registers = omega (arith, c.requires) in
    let is = reread c.args.state.now.registers i i _ Unset _ refl within c.in-Set.is in
    let r = register_number c.args.state.now lengths s i c.in-Set.known c.requires is held in
    absurd (c.in-Never.ensures.sound lengths origins r.0 tells r.2 (λ m e. bears.registers i c.requires m r.0 (reread c.args.marks.now.registers i i _ None _ refl among e) r.1))
