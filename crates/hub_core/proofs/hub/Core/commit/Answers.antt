use Rattle.std.proofs.Common.{◌<◌, List, length, arith, subst, sym, ap, ◌∙◌}
use Rattle.span_flatten.specs.Version.{Version}
use Rattle.version_history.specs.Tokens.{Token}
use Rattle.feeds.specs.Batches.{Job}
use Rattle.feeds.specs.Feed.{IsFed}
use Rattle.hub_core.proofs.Opened.{ids_kept}
use Rattle.hub_core.proofs.Sound.{sound_set, kept_closed, committed, refused}
use Rattle.hub_core.proofs.hub.Core.commit.Goals as goal

pub invariant_of-self : goal.invariant_of-self
invariant_of-self g c =
    let within : c.behind-batch.inside.subscriber < length c.self.inside.subscribers.items = omega arith in
    let same = kept_closed g.S.Sink.sent g.S.Sink.full _ c.index_mut-sub.result.now c.args.batch c.commit-kept.result c.commit-kept.new.self c.commit-kept.ensures.keeps in (
      c.self.invariant.0,
      sound_set g.S.Sink.sent g.S.Sink.full _ c.behind-batch.inside.subscriber c.index_mut-sub.result.now c.commit-kept.new.self c.self.invariant.1 within c.index_mut-sub.ensures.value same
          (subst (λ (ts : List (Token Version)). IsFed g.S.Sink.sent g.S.Sink.full ts c.commit-kept.new.self) c.as_slice.ensures.value c.commit-kept.ensures.fed),
      ids_kept _ _ c.behind-batch.inside.subscriber c.index_mut-sub.result.now c.commit-kept.new.self within c.index_mut-sub.ensures.value same c.self.invariant.2,
    )

pub invariant_of-self-2 : goal.invariant_of-self-2
invariant_of-self-2 g c =
    let within : c.behind-batch.inside.subscriber < length c.self.inside.subscribers.items = omega arith in
    let same = kept_closed g.S.Sink.sent g.S.Sink.full _ c.index_mut-sub.result.now c.args.batch c.commit-kept.result c.commit-kept.new.self c.commit-kept.ensures.keeps in (
      c.self.invariant.0,
      sound_set g.S.Sink.sent g.S.Sink.full _ c.behind-batch.inside.subscriber c.index_mut-sub.result.now c.commit-kept.new.self c.self.invariant.1 within c.index_mut-sub.ensures.value same
          (subst (λ (ts : List (Token Version)). IsFed g.S.Sink.sent g.S.Sink.full ts c.commit-kept.new.self) c.as_slice.ensures.value c.commit-kept.ensures.fed),
      ids_kept _ _ c.behind-batch.inside.subscriber c.index_mut-sub.result.now c.commit-kept.new.self within c.index_mut-sub.ensures.value same c.self.invariant.2,
    )

pub returns-then-kept-clause-commits : goal.returns-then-kept-clause-commits
returns-then-kept-clause-commits g c =
    let within : c.behind-batch.inside.subscriber < length c.self.inside.subscribers.items = omega arith in
    committed g.S.Sink.sent g.S.Sink.full c.args.self.now _ c.args.batch c.as_slice.result.now c.behind-batch.inside.subscriber c.index.result.now c.index_mut-sub.result.now c.commit-kept.new.self c.commit-kept.result
    c.self.view_is (ap (λ (b : Job). b.subscriber) (c.behind-batch.view_is ∙ c.job.ensures)) within c.index.ensures (sym c.is_closed.ensures ∙ c.if-is_closed.false)
    c.index_mut-sub.ensures.value c.as_slice.ensures.value c.commit-kept.ensures.keeps c.if-kept.true

pub returns-clause-commits : goal.returns-clause-commits
returns-clause-commits g c =
    let within : c.behind-batch.inside.subscriber < length c.self.inside.subscribers.items = omega arith in
    refused g.S.Sink.sent g.S.Sink.full c.args.self.now _ c.args.batch c.as_slice.result.now c.behind-batch.inside.subscriber c.index.result.now c.index_mut-sub.result.now c.commit-kept.new.self c.commit-kept.result
    c.self.view_is (ap (λ (b : Job). b.subscriber) (c.behind-batch.view_is ∙ c.job.ensures)) within c.index.ensures (sym c.is_closed.ensures ∙ c.if-is_closed.false)
    c.index_mut-sub.ensures.value c.as_slice.ensures.value c.commit-kept.ensures.keeps c.if-kept.false
