use Rattle.std.proofs.Common.{IsTrue}
use Rattle.label_potentials.proofs.Held.{IsWhole}
use Rattle.label_potentials.proofs.Weighing.{positive_by, positive_sound}
use Rattle.label_potentials.proofs.positive.is_positive.Goals as goal

pub returns-in-Some-clause-rule : goal.returns-in-Some-clause-rule
returns-in-Some-clause-rule c =
    positive_by c.args.state.now c.args.potential.now c.in-Some.weighed (IsTrue c.is_enough.result) c.in-Some.ensures.known
    c.is_enough.ensures

pub returns-in-Some-clause-sound : goal.returns-in-Some-clause-sound
returns-in-Some-clause-sound c = λ yes.
    let whole : IsWhole c.args.state.now
    = record { registers = c.is_whole.ensures.registers; stack = c.is_whole.ensures.stack } in
    let rule = returns-in-Some-clause-rule c in
    positive_sound c.args.state.now c.args.potential.now whole (rule.0 yes)
