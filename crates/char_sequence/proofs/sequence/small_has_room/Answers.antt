use Rattle.char_sequence.proofs.Growing.{few_have_room, revived_have_room}
use Rattle.char_sequence.proofs.sequence.small_has_room.Goals as goal

pub returns-clause-inserts : goal.returns-clause-inserts
returns-clause-inserts c = λ ops op h few none. few_have_room _ ops op h few none

pub returns-clause-revivals : goal.returns-clause-revivals
returns-clause-revivals c = λ ops op h few other none. revived_have_room _ ops op h few other none
