use Rattle.std.proofs.Common.{◌≡◌, [], length, sym, ap, rules, arith}
use Rattle.std.proofs.lemmas.List.{get_or_past}
use Rattle.abstract_state.specs.declared.slot.Slot.TheVariants.{Marks}
use Rattle.label_potentials.specs.Counts.{spilled_in}
use Rattle.label_potentials.proofs.counted.slot_at.Goals as goal

pub returns-else-number-lt64 : goal.returns-else-number-lt64
returns-else-number-lt64 c =
    let long : length c.args.state.now.stack ≡ 64 = c.is_whole.ensures.stack in
    sym (ap spilled_in (get_or_past c.args.state.now.stack c.args.number (Marks []) (omega arith)))
