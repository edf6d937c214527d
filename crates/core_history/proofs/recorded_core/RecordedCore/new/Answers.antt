use Rattle.std.proofs.Common.{inl, refl}
use Rattle.subscriber_queues.specs.Queue.{was_sent, IsFull, closed_end, unsent}
use Rattle.core_history.specs.Lawful.{IsLawful}
use Rattle.core_history.proofs.Starting.{begun, may_start, starts}
use Rattle.core_history.proofs.recorded_core.RecordedCore.new.Goals as goal

pub new-history-requires-clause-legal : goal.new-history-requires-clause-legal
new-history-requires-clause-legal g c = (g.N.Naming.size, inl refl)

pub append-requires-clause-legal : goal.append-requires-clause-legal
append-requires-clause-legal g c =
    let next = may_start g.N.Naming.size was_sent IsFull closed_end unsent _ c.requires.begins _ c.new-history.ensures.history in
    (next.0, next.1, (g.N.Naming.size, next.2))

pub invariant_of-result : goal.invariant_of-result
invariant_of-result g c =
    begun g.N.Naming.size was_sent IsFull closed_end unsent _ c.requires.begins _ _ c.new-history.ensures.history c.append.ensures.history

pub returns-clause-starts : goal.returns-clause-starts
returns-clause-starts g c =
    starts IsLawful g.N.Naming.size _ c.requires.begins _ _ _ _ _ c.new-history.ensures.history c.new-history.ensures.token c.append.ensures.history c.append.ensures.me c.append.ensures.seen
