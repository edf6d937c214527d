use Rattle.hub_commands.proofs.KeptInputs.{kept_more}
use Rattle.hub_commands.proofs.join.KeptInputGather.push_piece.Goals as goal

pub returns : goal.returns
returns c = kept_more c.push_piece.result c.args.self.now _ c.args.piece.now c.in_ok-append.ensures c.push_piece.ensures
