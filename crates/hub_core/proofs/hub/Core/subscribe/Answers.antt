use Rattle.std.proofs.Common.{length, ap, sym, ◌∙◌, subst}
use Rattle.feeds.specs.Promise.{Suits}
use Rattle.hub_core.specs.Machine.{Core}
use Rattle.hub_core.proofs.hub.Core.subscribe.Goals as goal

pub subscribe_from-requires-clause-suits : goal.subscribe_from-requires-clause-suits
subscribe_from-requires-clause-suits g c =
    subst (λ n. Suits (g.S.Sink.promise c.args.sink) g.N.Naming.size c.args.program.value n)
    (ap (λ (z : Core g.row.S.Denot). length z.changes) (sym c.self.view_is) ∙ sym c.latest-first.ensures.value) c.requires.suits
