use Rattle.change_ops.proofs.FirstForms.{first_form_is_plain}
use Rattle.change_ops.proofs.change.first_form_is_plain.Goals as goal

pub returns : goal.returns
returns c = first_form_is_plain
