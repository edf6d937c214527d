use Rattle.std.proofs.Common.{◌<◌, length, arith, ap, sym, ◌∙◌}
use Rattle.feeds.specs.Feed.{Subscriber}
use Rattle.hub_core.proofs.Opened.{ids_kept}
use Rattle.hub_core.proofs.Sound.{sound_handed, reissued}
use Rattle.hub_core.proofs.hub.Core.reissue.Goals as goal

pub invariant_of-self : goal.invariant_of-self
invariant_of-self g c =
    let within : c.args.id < length c.self.inside.subscribers.items = omega arith in (
      c.self.invariant.0,
      sound_handed g.S.Sink.sent g.S.Sink.full _ c.args.id c.index_mut.result.now.cursor c.index_mut.result.now c.reissue.new.self c.self.invariant.1 within c.index_mut.ensures.value c.reissue.ensures,
      ids_kept _ _ c.args.id c.index_mut.result.now c.reissue.new.self within c.index_mut.ensures.value (ap (λ (z : Subscriber g.row.S.Denot). z.closed) c.reissue.ensures) c.self.invariant.2,
    )

pub returns : goal.returns
returns g c =
    let within : c.args.id < length c.self.inside.subscribers.items = omega arith in
    reissued c.args.self.now _ c.args.id c.index.result.now c.index_mut.result.now c.reissue.new.self c.self.view_is within c.index.ensures
    (sym c.is_closed.ensures ∙ c.if-is_closed.false) c.index_mut.ensures.value c.reissue.ensures
