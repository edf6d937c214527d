use Rattle.std.proofs.Common.{refl}
use Rattle.hub_commands.proofs.KeptInputs.{kept_read}
use Rattle.hub_commands.proofs.join.KeptInput.read.Goals as goal

pub returns : goal.returns
returns g c = kept_read c.args.size (g.R.Read.remaining c.args.reader.now) c.read_pieces.new.kept _ refl
    (c.in_ok-read_pieces.ensures c.args.size (record { read = c.new.ensures; bytes = c.new-2.ensures.items })) c.in_ok-finish.ensures
