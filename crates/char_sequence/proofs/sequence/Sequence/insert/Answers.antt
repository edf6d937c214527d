use Rattle.std.proofs.Common.{◌+◌, length, ◌++◌, ◌∷◌, [], subst, sym, ap, arith}
use Rattle.change_ops.specs.Operations.{id_of, Names}
use Rattle.char_sequence.specs.Order.{Shows}
use Rattle.char_sequence.specs.Held.{Holds}
use Rattle.change_ops.specs.declared.size.Size.TheVariants.{Large}
use Rattle.char_sequence.proofs.Chunking.{room_within}
use Rattle.char_sequence.proofs.Growing.{put_bytes}
use Rattle.char_sequence.proofs.Steps.{stands, not_used, above_all, has_room, inserted_held, inserted_shows, placed_text, put_size}
use Rattle.char_sequence.proofs.sequence.Sequence.insert.Goals as goal

pub reserve-requires : goal.reserve-requires
reserve-requires c =
    let ops = c.self.invariant.2.0 in
    let held = c.self.invariant.2.1 in
    let accepted = c.requires.accepted ops (subst (λ v. Holds v ops) c.self.view_is held) in
    λ m e. stands ops _ held.shows.text m (accepted.known m (subst (λ o. Names o m) (sym c.in-Insert.is) e))

pub put-requires-clause-fresh : goal.put-requires-clause-fresh
put-requires-clause-fresh c =
    let ops = c.self.invariant.2.0 in
    let held = c.self.invariant.2.1 in
    let accepted = c.requires.accepted ops (subst (λ v. Holds v ops) c.self.view_is held) in
    (ops, held.newest, not_used ops _ c.in-Insert.id (ap id_of c.in-Insert.is) accepted)

pub put-requires-clause-above : goal.put-requires-clause-above
put-requires-clause-above c =
    let ops = c.self.invariant.2.0 in
    let held = c.self.invariant.2.1 in
    let accepted = c.requires.accepted ops (subst (λ v. Holds v ops) c.self.view_is held) in
    above_all ops _ _ _ c.in-Insert.id (ap id_of c.in-Insert.is) c.reserve.ensures.same held.shows.text accepted

pub put-requires-clause-few : goal.put-requires-clause-few
put-requires-clause-few c =
    let ops = c.self.invariant.2.0 in
    let held = c.self.invariant.2.1 in
    let accepted = c.requires.accepted ops (subst (λ v. Holds v ops) c.self.view_is held) in
    let same = ap length c.reserve.ensures.same in
    let room = has_room ops _ _ _ (ap (λ n. n + 1) same) held.size c.requires.insert accepted in
    omega (arith, room)

pub invariant_of-self-2 : goal.invariant_of-self-2
invariant_of-self-2 c =
    let ops = c.self.invariant.2.0 in
    let held = c.self.invariant.2.1 in
    let accepted = c.requires.accepted ops (subst (λ v. Holds v ops) c.self.view_is held) in
    let same = c.reserve.ensures.same in
    let r = c.in_ok-room.ensures.room in
    let within = room_within _ _ _ _ same r.1.3 in
    let new = c.in_ok-put.ensures.ok r.1.0 r.1.3 in
    let text = placed_text {size = Large} _ _ _ c.in-Insert.id c.in-Insert.parent c.in-Insert.character r.0 r.1.0 r.1.1 r.1.2 within same new in
    let size = put_size _ _ _ _ _ same new within in (
      has_room ops _ _ _ size held.size c.requires.insert accepted,
      put_bytes ops _ _ _ c.args.op.now c.in-Insert.id c.in-Insert.parent c.in-Insert.character r.1.0 c.in-Insert.is same new within held.shows accepted,
      (ops ++ c.args.op.now ∷ [], inserted_held _ _ _ _ _ c.args.op.now c.in-Insert.id c.in-Insert.parent c.in-Insert.character c.in-Insert.is text size c.in_ok-put.ensures.noted ops held accepted),
    )

pub returns-clause-held : goal.returns-clause-held
returns-clause-held c =
    λ ops h.
    let same = c.reserve.ensures.same in
    let r = c.in_ok-room.ensures.room in
    let within = room_within _ _ _ _ same r.1.3 in
    let new = c.in_ok-put.ensures.ok r.1.0 r.1.3 in
    let text = placed_text {size = Large} _ _ _ c.in-Insert.id c.in-Insert.parent c.in-Insert.character r.0 r.1.0 r.1.1 r.1.2 within same new in
    inserted_held _ _ _ _ _ c.args.op.now c.in-Insert.id c.in-Insert.parent c.in-Insert.character c.in-Insert.is text (put_size _ _ _ _ _ same new within) c.in_ok-put.ensures.noted ops (subst (λ v. Holds v ops) (sym c.self.view_is) h) (c.requires.accepted ops h)

pub returns-clause-shows : goal.returns-clause-shows
returns-clause-shows c =
    λ ops h a.
    let same = c.reserve.ensures.same in
    let r = c.in_ok-room.ensures.room in
    let within = room_within _ _ _ _ same r.1.3 in
    let new = c.in_ok-put.ensures.ok r.1.0 r.1.3 in
    let text = placed_text {size = Large} _ _ _ c.in-Insert.id c.in-Insert.parent c.in-Insert.character r.0 r.1.0 r.1.1 r.1.2 within same new in
    inserted_shows _ _ c.args.op.now c.in-Insert.id c.in-Insert.parent c.in-Insert.character c.in-Insert.is text ops (subst (λ v. Shows v.elements ops) (sym c.self.view_is) h) a
