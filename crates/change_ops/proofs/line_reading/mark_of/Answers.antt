use Rattle.std.proofs.Common.{◌≡◌, Err, arith}
use Rattle.std.proofs.lemmas.Grind.{common_steps}
use Rattle.change_ops.specs.Ids.{within_limits}
use Rattle.change_ops.specs.Limits.{anchors_within}
use Rattle.change_ops.specs.Lines.{has_op}
use Rattle.change_ops.specs.Reading.{kept_if, mark_at, op_verdict, owned, id_at, anchors_at, within, both, Reads}
use Rattle.change_ops.specs.declared.operation.Op.TheVariants.{AddMark}
use Rattle.change_ops.proofs.Judging.{mark_line}
use Rattle.change_ops.proofs.line_reading.mark_of.Goals as goal

pub returns-in_err-attribute : goal.returns-in_err-attribute
returns-in_err-attribute c =
    let read : c.both.result ≡ both (both c.attribute_of.result (within anchors_within (anchors_at c.in_ok-value.fields.now))) (within within_limits (id_at c.in_ok-id.id.now)) = cc in
    let told : Reads (Err c.in_err-attribute.field-0.0) (op_verdict c.args.peer (kept_if (has_op c.args.form) (mark_at c.args.fields.now))) = rw c.in_err-attribute.was at (mark_line c.args.form c.args.peer c.args.fields.now _ _ _ _ _ _ c.attribute_of.result c.both.result c.in_ok-id.ensures c.in_ok-name.ensures c.in_ok-value.ensures c.attribute_of.ensures read) in
    let given : c.from_residual-in_err-attribute.result ≡ Err c.in_err-attribute.field-0.0 = grind (arith, common_steps) in
    rw given told

pub returns : goal.returns
returns c =
    let read : c.both.result ≡ both (both c.attribute_of.result (within anchors_within (anchors_at c.in_ok-value.fields.now))) (within within_limits (id_at c.in_ok-id.id.now)) = cc in
    let told : Reads (owned c.args.peer (AddMark c.in_ok-attribute.id c.in_ok-attribute.attribute c.in_ok-attribute.start c.in_ok-attribute.end)) (op_verdict c.args.peer (kept_if (has_op c.args.form) (mark_at c.args.fields.now))) = rw c.in_ok-attribute.was at (mark_line c.args.form c.args.peer c.args.fields.now _ _ _ _ _ _ c.attribute_of.result c.both.result c.in_ok-id.ensures c.in_ok-name.ensures c.in_ok-value.ensures c.attribute_of.ensures read) in
    rw c.owned.ensures told
