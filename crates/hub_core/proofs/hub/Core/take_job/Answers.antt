use Rattle.std.proofs.Common.{◌<◌, length, arith, ap, refl}
use Rattle.std.proofs.lemmas.Option.{slice_get_within}
use Rattle.feeds.specs.Feed.{Subscriber}
use Rattle.hub_core.specs.Machine.{Core}
use Rattle.hub_core.proofs.Opened.{ids_kept}
use Rattle.hub_core.proofs.Sizes.{changes_few}
use Rattle.hub_core.proofs.Sound.{sound_handed, job_taken}
use Rattle.hub_core.proofs.hub.Core.take_job.Goals as goal

pub returns-in_default : goal.returns-in_default
returns-in_default g c = (refl, c.in_default.ensures)

pub index_mut-sub-requires : goal.index_mut-sub-requires
index_mut-sub-requires g c =
    let found = c.in-Some.ensures.0 in
    let within : c.in-Some.id < length c.args.self.now.subscribers = slice_get_within c.args.self.now.subscribers c.in-Some.id found.0 found.1.0 in
    omega (arith, ap (λ (z : Core g.row.S.Denot). length z.subscribers) c.self.view_is)

pub invariant_of-self : goal.invariant_of-self
invariant_of-self g c =
    let found = c.in-Some.ensures.0 in
    let there : c.in-Some.id < length c.args.self.now.subscribers = slice_get_within c.args.self.now.subscribers c.in-Some.id found.0 found.1.0 in
    let within : c.in-Some.id < length c.self.inside.subscribers.items = omega (arith, ap (λ (z : Core g.row.S.Denot). length z.subscribers) c.self.view_is) in (
      c.self.invariant.0,
      sound_handed g.S.Sink.sent g.S.Sink.full _ c.in-Some.id _ c.index_mut-sub.result.now c.hand_out.new.self c.self.invariant.1 within c.index_mut-sub.ensures.value c.hand_out.ensures.handed,
      ids_kept _ _ c.in-Some.id c.index_mut-sub.result.now c.hand_out.new.self within c.index_mut-sub.ensures.value (ap (λ (z : Subscriber g.row.S.Denot). z.closed) c.hand_out.ensures.handed) c.self.invariant.2,
    )

pub returns : goal.returns
returns g c =
    job_taken c.args.self.now _ c.hand_out.result c.in-Some.id c.in-Some.number c.index_mut-sub.result.now c.hand_out.new.self c.as_slice.result.now c.self.view_is
    c.in-Some.ensures.0 c.index_mut-sub.ensures.value c.hand_out.ensures.handed c.hand_out.ensures.of c.hand_out.ensures.version c.as_slice.ensures.value

pub hand_out-requires-clause-few : goal.hand_out-requires-clause-few
hand_out-requires-clause-few g c =
    omega (arith, ap length c.as_slice.ensures.value, c.self.invariant.1.named, c.self.invariant.1.few, changes_few c.self.inside.history.size)
