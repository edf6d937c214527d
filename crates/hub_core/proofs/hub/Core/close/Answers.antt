use Rattle.std.proofs.Common.{◌≡◌, ◌<◌, Some, length, arith, refl, sym, ◌∙◌, subst}
use Rattle.std.specs.Prelude.{slice_get}
use Rattle.std.proofs.lemmas.Option.{slice_get_read}
use Rattle.hub_core.proofs.Opened.{ids_have, ids_less}
use Rattle.hub_core.proofs.Sound.{sound_closed, closed_now, closed_by}
use Rattle.hub_core.proofs.hub.Core.close.Goals as goal

pub take_out-requires : goal.take_out-requires
take_out-requires g c =
    let within : c.args.id < length c.self.inside.subscribers.items = omega arith in
    let read = slice_get_read c.self.inside.subscribers.items (length c.self.inside.subscribers.items) c.args.id c.index.result.now refl within c.index.ensures in
    let has = ids_have c.self.inside.subscribers.items c.args.id c.index.result.now read (sym c.is_closed.ensures ∙ c.if-is_closed.false) in
    (has.0, subst (λ m. slice_get m has.0 ≡ Some c.args.id) (sym c.self.invariant.2) has.1)

pub invariant_of-self : goal.invariant_of-self
invariant_of-self g c =
    let within : c.args.id < length c.self.inside.subscribers.items = omega arith in (
      c.self.invariant.0,
      sound_closed g.S.Sink.sent g.S.Sink.full _ c.args.id c.index_mut.result.now c.close.new.self _ c.self.invariant.1 within c.index_mut.ensures.value c.close.ensures.value c.close.ensures.sent,
      ids_less _ _ _ c.args.id c.close.new.self c.take_out.ensures (closed_by c.index_mut.result.now c.close.new.self (g.S.Sink.closed c.index_mut.result.now.sink) c.close.ensures.value) c.self.invariant.2,
    )

pub returns : goal.returns
returns g c =
    let within : c.args.id < length c.self.inside.subscribers.items = omega arith in
    closed_now g.S.Sink.closed c.args.self.now _ c.args.id c.index.result.now c.index_mut.result.now c.close.new.self c.self.view_is within c.index.ensures
    (sym c.is_closed.ensures ∙ c.if-is_closed.false) c.index_mut.ensures.value c.close.ensures.value
