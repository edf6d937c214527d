use Rattle.std.proofs.Common.{◌<◌, List, length, arith, ap, subst, sym, ◌∙◌}
use Rattle.change_ops.specs.declared.size.Size.{Size}
use Rattle.span_flatten.specs.Version.{Version}
use Rattle.version_history.specs.Tokens.{Token}
use Rattle.feeds.specs.Promise.{AreOfChanges}
use Rattle.feeds.specs.Feed.{Subscriber, IsFed}
use Rattle.hub_core.proofs.Opened.{ids_kept}
use Rattle.hub_core.proofs.Sound.{of_changes, fed_at, sound_set, pumped}
use Rattle.hub_core.proofs.hub.Core.pump.Goals as goal

pub pump-requires-clause-published : goal.pump-requires-clause-published
pump-requires-clause-published g c =
    subst (λ (x : Size × List (Token Version)). AreOfChanges x.0 x.1) (λ i. (c.self.invariant.0 i, sym c.as_slice.ensures.value i)) (of_changes g.S.Sink.sent g.S.Sink.full _ c.self.invariant.1 c.len-2.ensures.accepted)

pub pump-requires-clause-fed : goal.pump-requires-clause-fed
pump-requires-clause-fed g c =
    let within : c.args.id < length c.self.inside.subscribers.items = omega arith in
    subst (λ (ts : List (Token Version)). IsFed g.S.Sink.sent g.S.Sink.full ts c.index_mut-sub.result.now) (sym c.as_slice.ensures.value)
    (fed_at g.S.Sink.sent g.S.Sink.full _ c.args.id c.index_mut-sub.result.now c.self.invariant.1 within c.index_mut-sub.ensures.value)

pub invariant_of-self : goal.invariant_of-self
invariant_of-self g c =
    let within : c.args.id < length c.self.inside.subscribers.items = omega arith in
    let same = ap (λ (z : Subscriber g.row.S.Denot). z.closed) c.pump.ensures.moved.same in (
      c.self.invariant.0,
      sound_set g.S.Sink.sent g.S.Sink.full _ c.args.id c.index_mut-sub.result.now c.pump.new.self c.self.invariant.1 within c.index_mut-sub.ensures.value same
          (subst (λ (ts : List (Token Version)). IsFed g.S.Sink.sent g.S.Sink.full ts c.pump.new.self) c.as_slice.ensures.value c.pump.ensures.fed),
      ids_kept _ _ c.args.id c.index_mut-sub.result.now c.pump.new.self within c.index_mut-sub.ensures.value same c.self.invariant.2,
    )

pub returns : goal.returns
returns g c =
    let within : c.args.id < length c.self.inside.subscribers.items = omega arith in
    pumped g.S.Sink.sent g.S.Sink.full g.S.Sink.bare c.args.self.now _ c.args.id c.pump.result c.index.result.now c.index_mut-sub.result.now c.pump.new.self c.self.view_is within
    c.index.ensures (sym c.is_closed.ensures ∙ c.if-is_closed.false) c.index_mut-sub.ensures.value c.pump.ensures.moved c.pump.ensures.stop
    (subst (λ (ts : List (Token Version)). IsFed g.S.Sink.sent g.S.Sink.full ts c.pump.new.self) c.as_slice.ensures.value c.pump.ensures.fed)
