use Rattle.change_history.proofs.AlikeLaws.{forms_are_alike}
use Rattle.change_history.proofs.history.forms_are_alike.Goals as goal

pub returns : goal.returns
returns c = forms_are_alike
