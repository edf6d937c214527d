use Rattle.std.proofs.Common.{refl, sym, ap, ◌∙◌, subst}
use Rattle.subscriber_queues.specs.Queue.{QueueSink}
use Rattle.core_history.specs.Runs.{Recorded}
use Rattle.core_history.specs.Hubs.{IsHubLegal}
use Rattle.ingest_workers.specs.Holdings.{Settles}
use Rattle.ingest_workers.proofs.Settling.{gathers_none, gathers_more, all_parts, settled}
use Rattle.ingest_workers.proofs.books.Books.settle.Goals as goal

pub loop-share-init : goal.loop-share-init
loop-share-init g c = record { same = refl; gathers = gathers_none _ _ _ c.self.invariant.1 c.self.invariant.2 (sym c.self.invariant.3.accepted) }

pub loop-share-preserved : goal.loop-share-preserved
loop-share-preserved g c = record {
  same = c.take_in.ensures.same ∙ c.loop-share.invariant.same;
  gathers = gathers_more (IsHubLegal g.N.Naming.size) _ _ _ _ _ _ _ c.in-Some.ensures.items c.take_in.ensures.me
      (c.take_in.ensures.seen ∙ ap (λ (r : Recorded QueueSink). r.history) c.loop-share.invariant.same) c.take_in.ensures.count c.loop-share.invariant.gathers;
}

pub settle-requires-clause-all : goal.settle-requires-clause-all
settle-requires-clause-all g c = all_parts _ _ c.loop-share.shares.items _ (sym c.loop-share.shares.ok.0 ∙ c.in_default.ensures.cases.0) c.loop-share.invariant.gathers ∙ c.requires

pub returns : goal.returns
returns g c =
    subst (λ (r : Recorded QueueSink). Settles g.N.Naming.size r c.args.shares.items c.settle.result) c.self.view_is
    (settled g.N.Naming.size _ _ _ c.loop-share.shares.items _ _ c.loop-share.invariant.same (sym c.loop-share.shares.ok.0 ∙ c.in_default.ensures.cases.0) c.loop-share.invariant.gathers c.settle.ensures.run c.settle.ensures.whole c.settle.ensures.own c.settle.ensures.count)
