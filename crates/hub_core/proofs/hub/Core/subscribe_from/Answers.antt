use Rattle.std.proofs.Common.{◌≡◌, ◌∷◌, [], ◌++◌, ◌≤◌, List, length, arith, true≢false, ap, sym, ◌∙◌, subst}
use Rattle.feeds.specs.Feed.{Subscriber}
use Rattle.hub_core.specs.Machine.{Core, HasPlace}
use Rattle.hub_core.proofs.Opened.{ids_more}
use Rattle.hub_core.proofs.Places.{has_place}
use Rattle.hub_core.proofs.Sound.{sound_subscribed, subscribed_now}
use Rattle.hub_core.proofs.hub.Core.subscribe_from.Goals as goal

pub invariant_of-self-2 : goal.invariant_of-self-2
invariant_of-self-2 g c =
    let place = has_place c.args.self.now (λ none. true≢false (sym (c.is_full.ensures.1 none) ∙ c.if-is_full.false)) in
    let room = subst (λ (z : Core g.row.S.Denot). HasPlace z) (sym c.self.view_is) place in
    let published : c.args.first ≤ length c.self.inside.history.changes = omega (arith, c.latest-newest.ensures.value) in
    let last : c.len-id.result ≡ length c.self.inside.subscribers.items = omega (arith, c.len-id.ensures, ap length c.reserve.ensures.items) in (
      c.self.invariant.0,
      sound_subscribed g.S.Sink.sent g.S.Sink.full _ c.args.program c.args.sink c.args.first c.in-Ok.subscriber _ _ c.self.invariant.1 published room c.requires.none
          c.in-Ok.ensures c.reserve.ensures.items c.push_reserved.ensures.items,
      ids_more c.self.inside.subscribers.items c.push_reserved.new.self.items c.self.inside.open.items c.push_reserved-2.new.self.items c.len-id.result c.in-Ok.subscriber
          (ap (λ (z : Subscriber g.row.S.Denot). z.closed) c.in-Ok.ensures) last c.self.invariant.2
          (c.push_reserved-2.ensures.items ∙ ap (λ m. m ++ c.len-id.result ∷ []) c.reserve-2.ensures.items)
          (c.push_reserved.ensures.items ∙ ap (λ (m : List (Subscriber g.row.S.Denot)). m ++ c.in-Ok.subscriber ∷ []) c.reserve.ensures.items),
    )

pub returns : goal.returns
returns g c =
    let place = has_place c.args.self.now (λ none. true≢false (sym (c.is_full.ensures.1 none) ∙ c.if-is_full.false)) in
    let published : c.args.first ≤ length c.self.inside.history.changes = omega (arith, c.latest-newest.ensures.value) in
    let last : c.len-id.result ≡ length c.self.inside.subscribers.items = omega (arith, c.len-id.ensures, ap length c.reserve.ensures.items) in
    subscribed_now c.args.self.now _ c.args.program c.args.sink c.args.first c.len-id.result c.in-Ok.subscriber _ _ c.self.view_is place published last
    c.in-Ok.ensures c.reserve.ensures.items c.push_reserved.ensures.items
