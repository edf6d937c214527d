use Rattle.std.proofs.Common.{subst}
use Rattle.filters.specs.Filters.{IsFilter}
use Rattle.feeds.specs.Feed.{Subscriber}
use Rattle.feeds.proofs.subscriber.Subscriber.sink.Goals as goal

pub returns-clause-safe : goal.returns-clause-safe
returns-clause-safe g c = subst (λ (s : Subscriber g.row.S.Denot). IsFilter s.program.value) c.self.view_is c.every_run_ends.ensures
