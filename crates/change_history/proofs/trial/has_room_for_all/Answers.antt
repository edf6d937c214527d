use Rattle.std.proofs.Common.{◌-◌, ◌≤◌, arith, sym, ◌∙◌}
use Rattle.std.specs.List.{sum_by}
use Rattle.std.proofs.lemmas.Bool.{leb-true}
use Rattle.change_ops.specs.Lines.{ops_of_lines}
use Rattle.change_history.specs.Trial.{growth}
use Rattle.change_history.proofs.trial.has_room_for_all.Goals as goal

pub returns-then-bytes-le-BYTE_LIMIT : goal.returns-then-bytes-le-BYTE_LIMIT
returns-then-bytes-le-BYTE_LIMIT c = λ is.
    let fits : sum_by (growth 0) (ops_of_lines c.args.lines.now) ≤ 131072 - c.bytes_of_all-bytes.result = leb-true _ _ (sym c.has_room.ensures ∙ is) in
    let bytes = c.bytes_of_all-bytes.ensures in
    let within = c.if-bytes-le-BYTE_LIMIT.true in
    omega (arith, fits, bytes, within)
