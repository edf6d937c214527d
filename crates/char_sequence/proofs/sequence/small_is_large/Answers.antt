use Rattle.char_sequence.proofs.Growing.{accepts_large}
use Rattle.char_sequence.proofs.sequence.small_is_large.Goals as goal

pub returns : goal.returns
returns c = λ ops op a. accepts_large ops op a
