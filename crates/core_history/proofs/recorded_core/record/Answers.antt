use Rattle.std.proofs.Common.{inr, sym, subst}
use Rattle.subscriber_queues.specs.Queue.{was_sent, IsFull, closed_end, unsent}
use Rattle.core_history.specs.Runs.{IsLegal}
use Rattle.core_history.specs.Lawful.{IsLawful}
use Rattle.core_history.proofs.Recording.{extends_by, may_follow, leads}
use Rattle.core_history.proofs.recorded_core.record.Goals as goal

pub append-requires-clause-legal : goal.append-requires-clause-legal
append-requires-clause-legal g c =
    let next = may_follow g.N.Naming.size was_sent IsFull closed_end unsent _ _ _ c.requires.led c.stays_consistent.ensures.consistent in
    (next.0, next.1, (g.N.Naming.size, next.2))

pub returns-clause-run : goal.returns-clause-run
returns-clause-run g c =
    leads g.N.Naming.size was_sent IsFull closed_end unsent _ _ _ _ c.requires.led c.stays_consistent.ensures.consistent c.append.ensures.history

pub returns-clause-extends : goal.returns-clause-extends
returns-clause-extends g c e is =
    let run = leads g.N.Naming.size was_sent IsFull closed_end unsent _ _ _ _ c.requires.led c.stays_consistent.ensures.consistent c.append.ensures.history in
    let legal = IsLegal g.N.Naming.size was_sent IsFull closed_end unsent in
    extends_by IsLawful legal _ _ e (c.append.ensures.me e is) (subst legal (sym c.append.ensures.seen) (inr (_, run)))
