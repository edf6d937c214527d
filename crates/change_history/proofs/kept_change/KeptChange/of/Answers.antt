use Rattle.change_history.proofs.Texts.{text_is_of}
use Rattle.change_history.proofs.kept_change.KeptChange.of.Goals as goal

pub returns : goal.returns
returns c = λ change valid spelled. text_is_of change c.args.text valid spelled
