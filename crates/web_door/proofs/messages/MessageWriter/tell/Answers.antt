use Rattle.std.proofs.lemmas.List.{append-nil}
use Rattle.web_door.specs.Said.{said}
use Rattle.web_door.proofs.SaidMore.{said_more}
use Rattle.web_door.proofs.messages.MessageWriter.tell.Goals as goal

pub returns-clause-kept : goal.returns-clause-kept
returns-clause-kept g c = rw (c.clear.ensures, append-nil (said c.and-self.result.items), c.and-self.ensures) (said_more c.args.self.now.told.items c.args.self.now.waiting _)
