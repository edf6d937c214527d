use Rattle.std.proofs.Common.{option_and_then, sym, ap, ◌∙◌}
use Rattle.abstract_state.proofs.Options.{where_some}
use Rattle.label_potentials.specs.Counts.{counted_from}
use Rattle.label_potentials.proofs.Held.{IsWhole, counted_sound}
use Rattle.label_potentials.proofs.counted.counted.Goals as goal

pub returns-clause-sound : goal.returns-clause-sound
returns-clause-sound c =
    let whole : IsWhole c.args.state.now
    = record { registers = c.is_whole.ensures.registers; stack = c.is_whole.ensures.stack } in
    where_some _ c.counted_from.result
    (λ q e. counted_sound c.args.state.now c.args.holder c.args.base q whole
    (ap (option_and_then (counted_from c.args.base)) (sym c.held.ensures ∙ c.in_ok-known.was)
    ∙ sym c.counted_from.ensures
    ∙ e))
