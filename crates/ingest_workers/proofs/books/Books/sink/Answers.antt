use Rattle.std.proofs.Common.{◌≡◌, Some, ap, ◌∙◌, subst}
use Rattle.std.specs.List.{slice_get}
use Rattle.filters.specs.Filters.{IsFilter}
use Rattle.feeds.specs.Feed.{Subscriber}
use Rattle.hub_core.specs.Machine.{Core}
use Rattle.subscriber_queues.specs.Queue.{QueueSink}
use Rattle.core_history.specs.Runs.{Recorded}
use Rattle.ingest_workers.proofs.books.Books.sink.Goals as goal

pub returns-clause-safe : goal.returns-clause-safe
returns-clause-safe g c =
    subst (λ (s : Core QueueSink). (a : Subscriber QueueSink) → slice_get s.subscribers c.args.id ≡ Some a → IsFilter a.program.value) (c.core.ensures.core ∙ ap (λ (r : Recorded QueueSink). r.core) c.self.view_is) c.sink.ensures.safe
