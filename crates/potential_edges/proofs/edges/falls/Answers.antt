use Rattle.std.proofs.Common.{◌≡◌, IsTrue, length, sym, ◌∙◌}
use Rattle.label_potentials.proofs.Held.{IsWhole}
use Rattle.potential_edges.proofs.Rests.{falls_by, falls_sound}
use Rattle.potential_edges.proofs.edges.falls.Goals as goal

pub returns-in-Some-clause-rule : goal.returns-in-Some-clause-rule
returns-in-Some-clause-rule c =
    falls_by c.args.state.now c.args.insn.now c.args.behind.now c.args.first.now c.args.second.now c.in-Some.difference
    (IsTrue c.is_more.result) c.in-Some.ensures.known c.is_more.ensures

pub returns-in-Some-clause-sound : goal.returns-in-Some-clause-sound
returns-in-Some-clause-sound c = λ yes.
    let whole : IsWhole c.args.state.now.state
    = record { registers = c.is_whole.ensures.registers; stack = c.is_whole.ensures.stack } in
    let other : IsWhole c.args.behind.now
    = record { registers = c.is_whole-2.ensures.registers; stack = c.is_whole-2.ensures.stack } in
    let long : length c.args.first.now.less ≡ length c.args.second.now.less
    = c.has_eight.ensures ∙ sym c.has_eight-2.ensures in
    let rule = returns-in-Some-clause-rule c in
    falls_sound c.args.state.now c.args.insn.now c.args.behind.now c.args.first.now c.args.second.now whole other
    c.writes_one.ensures long (rule.0 yes)
