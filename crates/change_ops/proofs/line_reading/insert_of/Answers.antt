use Rattle.std.proofs.Common.{◌≡◌, Err, sym, ◌∙◌, arith}
use Rattle.std.proofs.lemmas.Grind.{common_steps}
use Rattle.change_ops.specs.Ids.{within_limits}
use Rattle.change_ops.specs.Limits.{parent_within}
use Rattle.change_ops.specs.Reading.{insert_at, op_verdict, id_at, parent_at, hex_at, within, encoded, both}
use Rattle.change_ops.proofs.Judging.{insert_line}
use Rattle.change_ops.proofs.line_reading.insert_of.Goals as goal

pub returns-in_err-id-2 : goal.returns-in_err-id-2
returns-in_err-id-2 c =
    let read : c.both.result ≡ both (both (within within_limits (id_at c.in_ok-id.id.now)) (within parent_within (parent_at c.in_ok-parent.parent.now))) (encoded (hex_at c.in_ok-parent.code.now)) = cc in
    let told : op_verdict c.args.peer (insert_at c.args.fields.now) ≡ Err c.in_err-id-2.field-0.0 = rw c.in_err-id-2.was at (insert_line c.args.peer c.args.fields.now _ _ _ _ c.both.result c.in_ok-id.ensures c.in_ok-parent.ensures read) in
    let given : c.from_residual-in_err-id-2.result ≡ Err c.in_err-id-2.field-0.0 = grind (arith, common_steps) in
    given ∙ sym told
