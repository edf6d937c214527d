use Rattle.std.proofs.Common.{◌≡◌, ◌+◌, ◌≤◌, ◌++◌, length, vec_len, vec_capacity}
use Rattle.std.specs.Prelude.{All}
use Rattle.std.specs.Vec.Iter.{into_iter_items, into_iter_len}
use Rattle.hub_core.specs.Runs.{IsFreshEvent}
use Rattle.hub_core.proofs.Running.{Ran}
use Rattle.hub_core.proofs.run.run_events.Given as goal

abbrev pub invariant-loop-event : goal.invariant-loop-event
invariant-loop-event g l = record {
  ran : Ran g.S.Sink.sent g.S.Sink.full g.S.Sink.closed g.S.Sink.bare l.initial.replies.items l.replies.items l.jobs.items l.initial.core l.yielded l.core;
  rest : l.yielded ++ into_iter_items l.event-iterator ≡ into_iter_items l.initial.event-iterator;
  count : into_iter_len l.event-iterator ≡ length (into_iter_items l.event-iterator);
  fresh : All (IsFreshEvent g.S.Sink.sent g.S.Sink.promise g.N.Naming.size) (into_iter_items l.event-iterator);
  job_room : vec_len l.jobs + into_iter_len l.event-iterator ≤ vec_capacity l.jobs;
  reply_room : vec_len l.replies + into_iter_len l.event-iterator ≤ vec_capacity l.replies;
}
