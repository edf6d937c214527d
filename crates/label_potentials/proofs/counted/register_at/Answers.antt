use Rattle.std.proofs.Common.{◌≡◌, length, sym, rules, arith}
use Rattle.std.proofs.lemmas.List.{get_or_past}
use Rattle.abstract_state.specs.declared.state.AbsReg.TheVariants.{Unset}
use Rattle.label_potentials.proofs.counted.register_at.Goals as goal

pub returns-else-number-lt11 : goal.returns-else-number-lt11
returns-else-number-lt11 c =
    let eleven : length c.args.state.now.registers ≡ 11 = c.is_whole.ensures.registers in
    sym (get_or_past c.args.state.now.registers c.args.number Unset (omega arith))
