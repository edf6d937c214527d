use Rattle.std.proofs.Common.{◌<◌, [], None, length, refl, arith}
use Rattle.abstract_state.specs.declared.slot.Slot.TheVariants.{Marks}
use Rattle.abstract_state.proofs.Addresses.{known_fits}
use Rattle.value_marks.proofs.Taught.{slot_number, reread}
use Rattle.value_marks.proofs.telling.Teller.tell_slot.Goals as goal

pub returns-in-More-clause-sound : goal.returns-in-More-clause-sound
returns-in-More-clause-sound c = λ lengths origins s tells bears held.
    let i = c.args.slot in
    let within : i < length c.args.state.now.stack = omega (arith, c.requires) in
    let among : i < length c.args.marks.now.slots = omega (arith, c.requires) in
    let is = reread c.args.state.now.stack i i _ (Marks []) _ refl within c.in-Spilled.is in
    let r = slot_number c.args.state.now lengths s i c.in-Spilled.known c.requires is held in
    let more = c.in-More.ensures.sound lengths origins r.0 tells r.1 (λ m e. bears.slots i c.requires m r.0 (reread c.args.marks.now.slots i i _ None _ refl among e) (known_fits c.in-Spilled.known lengths r.0 r.1, r.2)) in
    c.note_slot.ensures.sound lengths s r.0 held r.2 more

pub returns-in-Never-clause-sound : goal.returns-in-Never-clause-sound
returns-in-Never-clause-sound c = λ lengths origins s tells bears held.
    let i = c.args.slot in
    let within : i < length c.args.state.now.stack = omega (arith, c.requires) in
    let among : i < length c.args.marks.now.slots = omega (arith, c.requires) in
    let is = reread c.args.state.now.stack i i _ (Marks []) _ refl within c.in-Spilled.is in
    let r = slot_number c.args.state.now lengths s i c.in-Spilled.known c.requires is held in
    absurd (c.in-Never.ensures.sound lengths origins r.0 tells r.1 (λ m e. bears.slots i c.requires m r.0 (reread c.args.marks.now.slots i i _ None _ refl among e) (known_fits c.in-Spilled.known lengths r.0 r.1, r.2)))
