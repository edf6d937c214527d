use Rattle.std.proofs.Common.{◌≡◌, true, rules, Err, sym, ◌∙◌, arith}
use Rattle.std.proofs.lemmas.Grind.{common_steps}
use Rattle.change_ops.specs.Keys.{is_at_most}
use Rattle.change_ops.specs.Lines.{has_op}
use Rattle.change_ops.specs.Reading.{kept_if, revive_at, op_verdict, id_at, within, both}
use Rattle.change_ops.specs.Ids.{within_limits}
use Rattle.change_ops.specs.declared.line.Form.TheVariants.{Third}
use Rattle.change_ops.proofs.Judging.{revive_line}
use Rattle.change_ops.proofs.line_reading.revive_of.Goals as goal

pub returns-in_err-id-2 : goal.returns-in_err-id-2
returns-in_err-id-2 c =
    let read : c.both.result ≡ both (within within_limits (id_at c.in_ok-id.id.now)) (within within_limits (id_at c.in_ok-id.removal.now)) = cc in
    let had : is_at_most Third c.args.form ≡ true = search rules in
    let line = rw c.in_err-id-2.was at (revive_line c.args.form c.args.peer c.args.fields.now _ _ c.both.result had c.in_ok-id.ensures read) in
    let told : op_verdict c.args.peer (kept_if (has_op c.args.form) (revive_at c.args.fields.now)) ≡ Err c.in_err-id-2.field-0.0 = line in
    let given : c.from_residual-in_err-id-2.result ≡ Err c.in_err-id-2.field-0.0 = grind (arith, common_steps) in
    given ∙ sym told
