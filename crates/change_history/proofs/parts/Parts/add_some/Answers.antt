use Rattle.std.proofs.Common.{◌≡◌, ◌-◌, ◌<◌, length, take, ◌++◌, refl, sym, ap, ◌∙◌, subst, arith, length-take}
use Rattle.std.specs.List.{filter}
use Rattle.change_ops.specs.Operations.{is_edit}
use Rattle.change_ops.specs.Runs.{inserts_from}
use Rattle.char_sequence.specs.RunElements.{later_id}
use Rattle.char_sequence.proofs.RunPlaced.{accepts_front}
use Rattle.version_laws.proofs.Put.{ArePut, run_put}
use Rattle.change_history.specs.declared.parts.Parts.{Parts}
use Rattle.change_history.proofs.Placing.{places_put, run_present, run_fits}
use Rattle.change_history.proofs.Running.{accepts_held, last_unused, keeps_run}
use Rattle.change_history.proofs.parts.Parts.add_some.Goals as goal

pub insert_some-requires-clause-accepted : goal.insert_some-requires-clause-accepted
insert_some-requires-clause-accepted c = λ others h.
    accepts_held c.requires.accepted.0 others c.args.self.now c.args.id c.args.parent c.args.characters.now c.requires.accepted.1 c.requires.accepted.2 h

pub place_of-place-requires : goal.place_of-place-requires
place_of-place-requires c =
    let ops = c.requires.accepted.0 in
    let part = take c.in_ok-count.count c.args.characters.now in
    let count = c.in_ok-count.ensures.count in
    let some : 0 < length part = let least = count.0 in let most = count.1 in omega (arith, least, most, length-take c.in_ok-count.count c.args.characters.now) in
    (ops ++ inserts_from c.args.id c.args.parent part, c.in_ok-count.ensures.shows ops c.requires.accepted.1.shows c.requires.accepted.2, run_present part ops c.args.id c.args.parent some)

pub shift-requires : goal.shift-requires
shift-requires c =
    let old = c.args.self.now in
    let a = c.requires.accepted in
    let most = c.in_ok-count.ensures.count.1 in
    (old.sequence.elements, (old.marks, a.1.places, run_fits a.0 c.args.id c.args.parent c.args.characters.now _ old (omega (arith, most)) a.1 a.2))

pub note-requires : goal.note-requires
note-requires c =
    (c.requires.accepted.0, c.requires.accepted.1.newest, last_unused c.requires.accepted.0 c.args.id c.later.result c.args.parent c.args.characters.now (c.in_ok-count.count - 1) c.later.ensures c.requires.accepted.2)

pub returns-clause-kept : goal.returns-clause-kept
returns-clause-kept c = λ ops k a.
    let n = c.in_ok-count.count in
    let part = take n c.args.characters.now in
    let old = c.args.self.now in
    let new : Parts = record { sequence = c.insert_some.new.self; marks = old.marks; places = c.shift.new.self; newest = c.note.new.self } in
    let count = c.in_ok-count.ensures.count in
    let size : length part ≡ n = let most = count.1 in omega (arith, most, length-take n c.args.characters.now) in
    let some : 0 < length part = let least = count.0 in omega (arith, least, size) in
    let last = c.later.ensures ∙ ap (λ k. later_id c.args.id (k - 1)) (sym size) in
    let shows = c.in_ok-count.ensures.shows ops k.shows a in
    let place = c.place_of-place.result in
    let put = run_put part ops old.sequence.elements new.sequence.elements c.args.id c.args.parent place some k.shows (accepts_front ops c.args.id c.args.parent c.args.characters.now n a) shows c.place_of-place.ensures.place in
    keeps_run ops c.args.id c.later.result c.args.parent part old new some last k refl
    (λ op is. c.in_ok-note.ensures.noted ops op is k.newest) shows
    (c.in_ok-count.ensures.held (filter is_edit ops) k.held)
    (places_put old.sequence.elements new.sequence.elements place n old.marks old.places new.places
    (subst (λ m. ArePut old.sequence.elements new.sequence.elements place m) size put) c.shift.ensures k.places)
