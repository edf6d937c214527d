use Rattle.change_ops.proofs.LineForms.{lines_are_forms, headers_are_forms}
use Rattle.change_ops.proofs.change.lines_have_one_form.Goals as goal

pub returns-clause-lines : goal.returns-clause-lines
returns-clause-lines c = lines_are_forms

pub returns-clause-headers : goal.returns-clause-headers
returns-clause-headers c = headers_are_forms
