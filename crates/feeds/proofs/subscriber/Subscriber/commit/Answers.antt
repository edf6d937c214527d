use Rattle.std.proofs.Common.{ap, ◌∙◌}
use Rattle.feeds.specs.Batches.{Job}
use Rattle.feeds.proofs.Feeding.{kept_fed}
use Rattle.feeds.proofs.subscriber.Subscriber.commit.Goals as goal

pub returns-clause-fed : goal.returns-clause-fed
returns-clause-fed g c =
    kept_fed g.S.Sink.sent g.S.Sink.full c.args.versions.now c.args.self.now _ c.args.batch c.behind-batch.inside.number c.self.view_is
    (ap (λ (b : Job). b.number) (c.behind-batch.view_is ∙ c.job.ensures)) c.requires c.if-not-wants.ensures.wanted
