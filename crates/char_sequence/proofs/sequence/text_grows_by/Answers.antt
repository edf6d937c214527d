use Rattle.char_sequence.proofs.TextGrowth.{text_grown}
use Rattle.char_sequence.proofs.sequence.text_grows_by.Goals as goal

pub returns : goal.returns
returns c = λ ops added es later h s. text_grown ops added es later h s
