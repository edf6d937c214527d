use Rattle.std.proofs.Common.{◌≡◌, Err, sym, ◌∙◌, arith}
use Rattle.std.proofs.lemmas.Grind.{common_steps}
use Rattle.change_ops.specs.Ids.{within_limits}
use Rattle.change_ops.specs.Limits.{key_within, anchors_within}
use Rattle.change_ops.specs.Lines.{has_key, has_op}
use Rattle.change_ops.specs.Reading.{kept_if, unmark_at, op_verdict, owned, id_at, key_at, anchors_at, within, both}
use Rattle.change_ops.specs.declared.operation.Op.TheVariants.{RemoveMark}
use Rattle.change_ops.proofs.Judging.{unmark_line}
use Rattle.change_ops.proofs.line_reading.unmark_of.Goals as goal

pub returns-in_err-key : goal.returns-in_err-key
returns-in_err-key c =
    let read : c.both.result ≡ both (both (within key_within (kept_if (has_key c.args.form) (key_at c.in_ok-name.name.now))) (within anchors_within (anchors_at c.in_ok-name.fields.now))) (within within_limits (id_at c.in_ok-id.id.now)) = cc in
    let told : op_verdict c.args.peer (kept_if (has_op c.args.form) (unmark_at c.args.fields.now)) ≡ Err c.in_err-key.field-0.0 = rw c.in_err-key.was at (unmark_line c.args.form c.args.peer c.args.fields.now _ _ _ _ c.both.result c.in_ok-id.ensures c.in_ok-name.ensures read) in
    let given : c.from_residual-in_err-key.result ≡ Err c.in_err-key.field-0.0 = grind (arith, common_steps) in
    given ∙ sym told

pub returns : goal.returns
returns c =
    let read : c.both.result ≡ both (both (within key_within (kept_if (has_key c.args.form) (key_at c.in_ok-name.name.now))) (within anchors_within (anchors_at c.in_ok-name.fields.now))) (within within_limits (id_at c.in_ok-id.id.now)) = cc in
    let told : op_verdict c.args.peer (kept_if (has_op c.args.form) (unmark_at c.args.fields.now)) ≡ owned c.args.peer (RemoveMark c.in_ok-key.id c.in_ok-key.key c.in_ok-key.start c.in_ok-key.end) = rw c.in_ok-key.was at (unmark_line c.args.form c.args.peer c.args.fields.now _ _ _ _ c.both.result c.in_ok-id.ensures c.in_ok-name.ensures read) in
    c.owned.ensures ∙ sym told
