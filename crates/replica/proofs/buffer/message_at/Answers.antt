use Rattle.std.proofs.Common.{length, refl}
use Rattle.std.proofs.lemmas.Option.{slice_get_read}
use Rattle.replica.proofs.buffer.message_at.Goals as goal

pub returns : goal.returns
returns c = slice_get_read c.args.messages.now (length c.args.messages.now) c.args.index c.index-messages-index.result refl c.requires c.index-messages-index.is
