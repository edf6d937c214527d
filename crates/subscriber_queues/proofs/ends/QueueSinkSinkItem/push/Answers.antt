use Rattle.std.proofs.Common.{◌≡◌, ◌++◌, ◌∷◌, [], subst, sym, ap, ◌∙◌}
use Rattle.std.specs.Prelude.{IfSome}
use Rattle.std.specs.Arc.{arc_value}
use Rattle.crossbeam_queue.specs.Passes.{view, IsPassOf, ruled_capacity}
use Rattle.feeds.specs.Orderly.{IsOrderly}
use Rattle.feeds.specs.Promise.{IsPromised}
use Rattle.subscriber_queues.specs.Queue.{QueueSink}
use Rattle.subscriber_queues.proofs.Moves.{sends, sent_waits}
use Rattle.subscriber_queues.proofs.ends.QueueSinkSinkItem.push.Goals as goal

pub push_as-requires-clause-rule : goal.push_as-requires-clause-rule
push_as-requires-clause-rule g c =
    let pass = c.self.inside.pass in
    let there = subst (λ o. IfSome o (λ line. IsPassOf (arc_value line) pass × ((view pass).capacity ≡ ruled_capacity (arc_value line)))) c.in-Some.is c.self.invariant.2 in (
      sends _ _ _ _ c.self.invariant.1 (there.1 ∙ ap ruled_capacity (sym c.deref.ensures))
          (subst (λ (s : QueueSink). IsOrderly (s.sent ++ c.args.item ∷ [])) (sym c.self.view_is) c.requires.orderly)
          (subst (λ (s : QueueSink). IsPromised s.promise (s.sent ++ c.args.item ∷ [])) (sym c.self.view_is) c.requires.promised),
      sent_waits _ _ c.self.invariant.1,
    )
