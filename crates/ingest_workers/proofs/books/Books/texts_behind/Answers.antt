use Rattle.std.proofs.Common.{◌≡◌, ◌<◌, ◌≤◌, length, map, take, drop, subst}
use Rattle.std.specs.Prelude.{IsTrue, ◌↔◌}
use Rattle.change_ops.specs.Spelling.{change_text}
use Rattle.hub_core.specs.Machine.{Core}
use Rattle.subscriber_queues.specs.Queue.{QueueSink}
use Rattle.core_history.specs.Runs.{Recorded}
use Rattle.ingest_workers.proofs.Texts.{some_spelled, not_lacking}
use Rattle.ingest_workers.proofs.books.Books.texts_behind.Goals as goal

pub returns-clause-texts : goal.returns-clause-texts
returns-clause-texts g c =
    let told = subst (λ (s : Core QueueSink). IsTrue c.lacks_version.result ↔ (length s.changes < c.args.from)) c.core.ensures.core c.lacks_version.ensures in
    subst (λ (s : Recorded QueueSink). (c.args.from ≤ length s.core.changes) × (c.in_ok-texts.texts.items ≡ map change_text (take c.args.most (drop c.args.from s.core.changes)))) c.self.view_is (
      not_lacking c.lacks_version.result c.self.inside.recorded.core.changes c.args.from told c.if-lacks_version.false,
      some_spelled c.self.inside.recorded.core.changes c.self.inside.texts.items c.as_slice.result.now c.in_ok-texts.texts.items c.args.from c.args.most c.self.invariant.5 c.as_slice.ensures.value c.in_ok-texts.ensures,
    )
