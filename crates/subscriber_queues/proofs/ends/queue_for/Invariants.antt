use Rattle.std.proofs.Common.{Some}
use Rattle.subscriber_queues.proofs.ends.queue_for.Given as goal

abbrev pub ghosts-promised : goal.ghosts-promised
ghosts-promised g a = record { room = a.capacity; promise = Some (record { size = g.N.Naming.size; program = a.program.now; first = a.first }) }
