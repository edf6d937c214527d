use Rattle.std.proofs.Common.{◌<◌, length, arith, ap, subst, sym, ◌∙◌}
use Rattle.feeds.specs.Feed.{Subscriber, IsFed}
use Rattle.hub_core.proofs.Opened.{ids_kept}
use Rattle.hub_core.proofs.Sound.{fed_at, fits_there, sound_set, met_same, met_there}
use Rattle.hub_core.proofs.hub.Core.meet.Goals as goal

pub meet-requires : goal.meet-requires
meet-requires g c =
    let within : c.args.id < length c.self.inside.subscribers.items = omega arith in
    record {
      fits = fits_there c.args.self.now _ c.args.id c.index.result.now c.index_mut.result.now (g.S.Sink.fits c.args.end.now) c.self.view_is within
          c.index.ensures (sym c.is_closed.ensures ∙ c.if-is_closed.false) c.index_mut.ensures.value c.requires.fits;
    }

pub invariant_of-self : goal.invariant_of-self
invariant_of-self g c =
    let within : c.args.id < length c.self.inside.subscribers.items = omega arith in
    let same = ap (λ (z : Subscriber g.row.S.Denot). z.closed) c.meet.ensures.same in (
      c.self.invariant.0,
      sound_set g.S.Sink.sent g.S.Sink.full _ c.args.id c.index_mut.result.now c.meet.new.self c.self.invariant.1 within c.index_mut.ensures.value same
          (subst (IsFed g.S.Sink.sent g.S.Sink.full c.self.inside.versions.items) (sym c.meet.ensures.same)
          (fed_at g.S.Sink.sent g.S.Sink.full _ c.args.id c.index_mut.result.now c.self.invariant.1 within c.index_mut.ensures.value)),
      ids_kept _ _ c.args.id c.index_mut.result.now c.meet.new.self within c.index_mut.ensures.value same c.self.invariant.2,
    )

pub returns-clause-same : goal.returns-clause-same
returns-clause-same g c = met_same c.args.self.now _ c.args.id c.index_mut.result.now c.meet.new.self c.self.view_is c.index_mut.ensures.value c.meet.ensures.same

pub returns-clause-met : goal.returns-clause-met
returns-clause-met g c =
    let within : c.args.id < length c.self.inside.subscribers.items = omega arith in
    met_there c.args.self.now _ c.args.id c.meet.result c.index.result.now c.index_mut.result.now
    (λ sink. g.S.Sink.meets sink c.args.end.now c.meet.new.end) c.self.view_is within
    c.index.ensures (sym c.is_closed.ensures ∙ c.if-is_closed.false) c.index_mut.ensures.value c.meet.ensures.cursor c.meet.ensures.meets
