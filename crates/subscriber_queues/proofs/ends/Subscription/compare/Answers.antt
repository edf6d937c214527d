use Rattle.std.proofs.Common.{ap, ◌∙◌, refl, inr}
use Rattle.crossbeam_queue.specs.Passes.{view}
use Rattle.subscriber_queues.specs.Rule.{Knows}
use Rattle.subscriber_queues.proofs.Moves.{merges, forks, shows}
use Rattle.subscriber_queues.proofs.ends.Subscription.compare.Goals as goal

pub another-spare-requires-clause-rule : goal.another-spare-requires-clause-rule
another-spare-requires-clause-rule g c = shows _ _ c.sink.invariant.1

pub absorb-requires-clause-rule : goal.absorb-requires-clause-rule
absorb-requires-clause-rule g c =
    merges _ (view c.another-spare.new.pass) _ (view c.replace-pass.result) (ap (λ (s : Knows). s.sends) c.another-spare.ensures.rule.0 ∙ c.sink.invariant.1)
    (ap (λ p. (view {V = Knows} p).takes) c.replace-pass.ensures.value ∙ c.self.invariant.1)

pub another-requires-clause-rule : goal.another-requires-clause-rule
another-requires-clause-rule g c =
    let is = c.learn_as.ensures.queue.1 ∙ c.absorb.ensures.rule in
    forks _ _ _ _ _ _ (ap (λ (s : Knows). s.sends) is) (ap (λ (s : Knows). s.takes) is) (inr refl) (inr (refl, refl)) (inr refl)
