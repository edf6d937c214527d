use Rattle.std.proofs.Common.{rules, Err, refl, ap, subst}
use Rattle.change_history.specs.Accepted.{IsRefused}
use Rattle.hub_core.specs.declared.run.Reply.TheVariants as reply
use Rattle.subscriber_queues.specs.Queue.{QueueSink}
use Rattle.core_history.specs.declared.entry.Call.TheVariants as call
use Rattle.core_history.specs.Runs.{Recorded}
use Rattle.core_history.proofs.recorded_core.RecordedCore.refuse_submit.Goals as goal

pub record-requires-clause-led : goal.record-requires-clause-led
record-requires-clause-led g c =
    (_, call.Submit c.args.change.now, reply.Submitted (Err c.refusal_without_memory-refusal.result), refl, c.self.invariant, (refl, c.refusal_without_memory-refusal.ensures c.args.change.now))

pub returns : goal.returns
returns g c = record {
  happens = (
    ap (λ (r : Recorded QueueSink). r.core) c.self.view_is,
    subst (λ (r : Recorded QueueSink). IsRefused r.core.size r.core.changes c.args.change.now c.refusal_without_memory-refusal.result) c.self.view_is (c.refusal_without_memory-refusal.ensures c.args.change.now),
  );
  history = search rules;
  extends = search rules;
  seen = search rules;
}
