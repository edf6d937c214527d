use Rattle.known_ways.proofs.Wholes.{own_whole}
use Rattle.known_ways.proofs.behind.Behind.jumped.Goals as goal

pub returns-clause-jumped : goal.returns-clause-jumped
returns-clause-jumped c = own_whole c.args.before.now c.is_state_whole.ensures
