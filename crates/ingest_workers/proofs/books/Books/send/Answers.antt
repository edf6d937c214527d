use Rattle.std.proofs.Common.{refl, ap, sym, ◌∙◌, subst}
use Rattle.hub_core.specs.declared.run.Reply.TheVariants as reply
use Rattle.subscriber_queues.specs.Queue.{QueueSink, was_sent, IsFull, closed_end, unsent}
use Rattle.core_history.specs.declared.entry.Call.TheVariants as call
use Rattle.core_history.specs.Runs.{Recorded, Records}
use Rattle.ingest_workers.proofs.House.{kept, sent_seen}
use Rattle.ingest_workers.proofs.Sending.{own_fits, records_begin, met_as}
use Rattle.ingest_workers.proofs.books.Books.send.Goals as goal

pub meet-requires : goal.meet-requires
meet-requires g c = record {
  fits = own_fits g.N.Naming.size c.args.share.now c.args.id c.args.end.now _ _ c.requires (records_begin _ _ _ _ _ _ _ c.pump.ensures) c.core-2.ensures.run;
}

pub invariant_of-self : goal.invariant_of-self
invariant_of-self g c =
    kept _ g.N.Naming.size _ _ _ _ _ _ _ _ _ _
    (subst (λ (r : Recorded QueueSink). Records g.N.Naming.size was_sent IsFull closed_end unsent c.self.inside.recorded c.args.share.now (call.Pump c.args.id) (reply.Pumped c.pump.result) r c.pump.new.self) (sym c.meet.ensures.same) c.pump.ensures)
    refl c.self.invariant (c.core-2.ensures.core ∙ ap (λ (r : Recorded QueueSink). r.core) (sym c.meet.ensures.same)) c.stays_consistent.ensures.consistent c.stays_consistent.ensures.size

pub returns : goal.returns
returns g c =
    sent_seen g.N.Naming.size _ _ _ _ c.args.id c.args.end.now c.meet.new.end c.meet.result c.pump.result _ c.core.ensures.run c.pump.ensures c.self.invariant.4 c.self.invariant.7
    c.core-2.ensures.core c.stays_consistent.ensures.consistent c.stays_consistent.ensures.size c.core-2.ensures.run (met_as c.pump.new.core.core c.args.id c.args.end.now c.meet.new.end c.meet.result c.meet.ensures.met)
