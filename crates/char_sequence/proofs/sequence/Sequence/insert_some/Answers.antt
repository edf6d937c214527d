use Rattle.std.proofs.Common.{◌≡◌, ◌<◌, length, take, ◌++◌, subst, sym, arith, length-take}
use Rattle.change_ops.specs.Runs.{inserts_from}
use Rattle.char_sequence.specs.Order.{Shows}
use Rattle.char_sequence.specs.Held.{Holds}
use Rattle.char_sequence.proofs.Chunking.{room_within}
use Rattle.char_sequence.proofs.Steps.{stands}
use Rattle.char_sequence.proofs.RunPlaced.{accepts_front, run_above, run_room, run_placed, run_placed_held, run_bytes, run_few}
use Rattle.char_sequence.proofs.sequence.Sequence.insert_some.Goals as goal

pub reserve-requires : goal.reserve-requires
reserve-requires c =
    let ops = c.self.invariant.2.0 in
    let held = c.self.invariant.2.1 in
    let accepted = c.requires.accepted ops (subst (λ v. Holds v ops) c.self.view_is held) in
    λ m e. stands ops _ held.shows.text m (accepted.known m e)

pub put_some-requires-clause-fresh : goal.put_some-requires-clause-fresh
put_some-requires-clause-fresh c =
    let ops = c.self.invariant.2.0 in
    let held = c.self.invariant.2.1 in
    let accepted = c.requires.accepted ops (subst (λ v. Holds v ops) c.self.view_is held) in
    (ops, held.newest, accepted.fresh)

pub put_some-requires-clause-above : goal.put_some-requires-clause-above
put_some-requires-clause-above c =
    let ops = c.self.invariant.2.0 in
    let held = c.self.invariant.2.1 in
    let accepted = c.requires.accepted ops (subst (λ v. Holds v ops) c.self.view_is held) in
    run_above ops _ _ c.args.id c.args.parent c.args.characters.now c.reserve.ensures.same held.shows.text accepted

pub put_some-requires-clause-few : goal.put_some-requires-clause-few
put_some-requires-clause-few c =
    let ops = c.self.invariant.2.0 in
    let held = c.self.invariant.2.1 in
    let accepted = c.requires.accepted ops (subst (λ v. Holds v ops) c.self.view_is held) in
    run_room _ ops _ c.args.id c.args.parent c.args.characters.now c.reserve.ensures.same held accepted

pub invariant_of-self-2 : goal.invariant_of-self-2
invariant_of-self-2 c =
    let ops = c.self.invariant.2.0 in
    let held = c.self.invariant.2.1 in
    let n = c.in_ok-count.count in
    let part = take n c.args.characters.now in
    let accepted = accepts_front ops c.args.id c.args.parent c.args.characters.now n (c.requires.accepted ops (subst (λ v. Holds v ops) c.self.view_is held)) in
    let same = c.reserve.ensures.same in
    let r = c.in_ok-room.ensures.room in
    let within = room_within _ _ _ _ same r.1.3 in
    let new = c.in_ok-count.ensures.ok r.1.0 r.1.3 in
    let count = c.in_ok-count.ensures.count in
    let size : length part ≡ n = let most = count.1 in omega (arith, most, length-take n c.args.characters.now) in
    let some : 0 < length part = let least = count.0 in omega (arith, least, size) in
    let after = run_placed_held _ _ _ _ _ _ c.args.id c.args.parent part r.0 r.1.0 some r.1.1 r.1.2 within same new (λ ops op node counter k. c.in_ok-count.ensures.noted ops op node k (omega (arith, counter, size))) ops held accepted in
    (run_few _ _ _ ops c.args.id c.args.parent part after accepted, run_bytes ops _ _ _ c.args.id c.args.parent part r.1.0 within same new held.shows accepted, (ops ++ inserts_from c.args.id c.args.parent part, after))

pub returns-clause-held : goal.returns-clause-held
returns-clause-held c =
    λ ops h.
    let n = c.in_ok-count.count in
    let part = take n c.args.characters.now in
    let accepted = accepts_front ops c.args.id c.args.parent c.args.characters.now n (c.requires.accepted ops h) in
    let same = c.reserve.ensures.same in
    let r = c.in_ok-room.ensures.room in
    let within = room_within _ _ _ _ same r.1.3 in
    let new = c.in_ok-count.ensures.ok r.1.0 r.1.3 in
    let count = c.in_ok-count.ensures.count in
    let size : length part ≡ n = let most = count.1 in omega (arith, most, length-take n c.args.characters.now) in
    let some : 0 < length part = let least = count.0 in omega (arith, least, size) in
    run_placed_held _ _ _ _ _ _ c.args.id c.args.parent part r.0 r.1.0 some r.1.1 r.1.2 within same new (λ ops op node counter k. c.in_ok-count.ensures.noted ops op node k (omega (arith, counter, size))) ops (subst (λ v. Holds v ops) (sym c.self.view_is) h) accepted

pub returns-clause-shows : goal.returns-clause-shows
returns-clause-shows c =
    λ ops h a.
    let n = c.in_ok-count.count in
    let part = take n c.args.characters.now in
    let accepted = accepts_front ops c.args.id c.args.parent c.args.characters.now n a in
    let same = c.reserve.ensures.same in
    let r = c.in_ok-room.ensures.room in
    let within = room_within _ _ _ _ same r.1.3 in
    let new = c.in_ok-count.ensures.ok r.1.0 r.1.3 in
    run_placed _ _ _ c.args.id c.args.parent part r.0 r.1.0 r.1.1 r.1.2 within same new ops (subst (λ v. Shows v.elements ops) (sym c.self.view_is) h) accepted
