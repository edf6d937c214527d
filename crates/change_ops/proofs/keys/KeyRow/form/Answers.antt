use Rattle.std.proofs.Common.{sym}
use Rattle.std.proofs.lemmas.Option.{get_or_from_slice_get}
use Rattle.change_ops.specs.Keys.{forms}
use Rattle.change_ops.specs.declared.line.Form.TheVariants.{First}
use Rattle.change_ops.proofs.keys.KeyRow.form.Goals as goal

pub returns : goal.returns
unfolding forms
returns c = sym (get_or_from_slice_get forms c.args.self c.form_in.result First (rw c.row.ensures.value at c.form_in.ensures))
