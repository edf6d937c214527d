use Rattle.hub_commands.proofs.ReadingChanges.{whole_read}
use Rattle.hub_commands.proofs.changes_input.ChangesInput.read.Goals as goal

pub returns : goal.returns
returns g c = whole_read c.args.size (g.R.Read.remaining c.args.reader.now) _ _ (c.in_ok-read_pieces.ensures c.args.size c.new-read.ensures) c.in_ok-finish.ensures
