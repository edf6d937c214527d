use Rattle.std.proofs.Common.{◌++◌, ◌∷◌, [], refl, sym, ap}
use Rattle.std.specs.List.{filter}
use Rattle.change_ops.specs.Operations.{is_edit, is_insert, is_mark}
use Rattle.char_sequence.proofs.Steps.{accepts_other}
use Rattle.change_history.specs.declared.parts.Parts.{Parts}
use Rattle.change_history.proofs.Edits.{accepts_part, edits_part}
use Rattle.version_laws.proofs.Put.{insert_put}
use Rattle.change_history.proofs.Keeping.{keeps_edit, keeps_removal, keeps_revival, keeps_mark, fresh_mark, mark_room, unused_of, shows_mark}
use Rattle.change_history.proofs.Placing.{places_put, insert_present, insert_fits}
use Rattle.change_history.proofs.parts.Parts.add.Goals as goal

pub note-requires : goal.note-requires
note-requires c =
    (c.requires.0, c.requires.1.newest, unused_of c.requires.0 c.args.op.now c.id.result c.id.ensures c.requires.2.accepted)

pub insert-requires-clause-accepted : goal.insert-requires-clause-accepted
insert-requires-clause-accepted c = λ ops h.
    accepts_other c.args.self.now.sequence (filter is_edit c.requires.0) ops c.args.op.now c.requires.1.held h (accepts_part c.requires.0 c.args.self.now.sequence.elements c.requires.1.shows c.args.op.now c.requires.2.accepted)

pub remove-requires-clause-accepted : goal.remove-requires-clause-accepted
remove-requires-clause-accepted c = λ ops h.
    accepts_other c.args.self.now.sequence (filter is_edit c.requires.0) ops c.args.op.now c.requires.1.held h (accepts_part c.requires.0 c.args.self.now.sequence.elements c.requires.1.shows c.args.op.now c.requires.2.accepted)

pub remove-requires-clause-removal : goal.remove-requires-clause-removal
remove-requires-clause-removal c = (c.in-Remove.id, (c.in-Remove.target, c.in-Remove.is))

pub revive-requires-clause-accepted : goal.revive-requires-clause-accepted
revive-requires-clause-accepted c = λ ops h.
    accepts_other c.args.self.now.sequence (filter is_edit c.requires.0) ops c.args.op.now c.requires.1.held h (accepts_part c.requires.0 c.args.self.now.sequence.elements c.requires.1.shows c.args.op.now c.requires.2.accepted)

pub revive-requires-clause-revival : goal.revive-requires-clause-revival
revive-requires-clause-revival c = (c.in-Revive.id, (c.in-Revive.removal, c.in-Revive.is))

pub place_of-place-requires : goal.place_of-place-requires
place_of-place-requires c =
    let ops = c.requires.0 in
    (ops ++ c.args.op.now ∷ [], c.in_ok-insert-in-Insert.ensures.shows ops c.requires.1.shows c.requires.2.accepted, insert_present ops c.args.op.now c.in-Insert.id c.in-Insert.parent c.in-Insert.character c.in-Insert.is)

pub shift-requires : goal.shift-requires
shift-requires c =
    let old = c.args.self.now in
    (old.sequence.elements, (old.marks, c.requires.1.places, insert_fits c.requires.0 c.args.op.now old (ap is_insert c.in-Insert.is) c.requires.1 c.requires.2.accepted))

pub add_mark-requires-clause-fresh : goal.add_mark-requires-clause-fresh
add_mark-requires-clause-fresh c =
    fresh_mark c.requires.0 c.args.op.now c.args.self.now.marks c.requires.1.marks c.requires.2.accepted

pub add_mark-requires-clause-room : goal.add_mark-requires-clause-room
add_mark-requires-clause-room c =
    mark_room c.requires.0 c.args.op.now c.args.self.now.marks c.requires.1.marks (ap is_mark c.in-AddMark.is) c.requires.2.room

pub add_mark-requires-clause-there : goal.add_mark-requires-clause-there
add_mark-requires-clause-there c = (c.requires.0, c.requires.1.shows, c.requires.2.accepted.known)

pub add_mark-requires-in-RemoveMark-clause-fresh : goal.add_mark-requires-in-RemoveMark-clause-fresh
add_mark-requires-in-RemoveMark-clause-fresh c =
    fresh_mark c.requires.0 c.args.op.now c.args.self.now.marks c.requires.1.marks c.requires.2.accepted

pub add_mark-requires-in-RemoveMark-clause-room : goal.add_mark-requires-in-RemoveMark-clause-room
add_mark-requires-in-RemoveMark-clause-room c =
    mark_room c.requires.0 c.args.op.now c.args.self.now.marks c.requires.1.marks (ap is_mark c.in-RemoveMark.is) c.requires.2.room

pub add_mark-requires-in-RemoveMark-clause-there : goal.add_mark-requires-in-RemoveMark-clause-there
add_mark-requires-in-RemoveMark-clause-there c = (c.requires.0, c.requires.1.shows, c.requires.2.accepted.known)

pub returns-in_ok-insert-in-Insert : goal.returns-in_ok-insert-in-Insert
returns-in_ok-insert-in-Insert c = λ ops k m.
    let op = c.args.op.now in
    let old = c.args.self.now in
    let new : Parts = record { sequence = c.insert.new.self; marks = old.marks; places = c.shift.new.self; newest = c.note.new.self } in
    let shows = c.in_ok-insert-in-Insert.ensures.shows ops k.shows m.accepted in
    let put = insert_put ops old.sequence.elements new.sequence.elements op c.in-Insert.id c.in-Insert.parent c.in-Insert.character c.place_of-place.result c.in-Insert.is k.shows m.accepted shows c.place_of-place.ensures.place in
    keeps_edit ops op old new (ap is_edit c.in-Insert.is) (ap is_mark c.in-Insert.is) k refl
    (c.in_ok-note.ensures.noted ops op (sym c.id.ensures) k.newest) shows (c.in_ok-insert-in-Insert.ensures.held (filter is_edit ops) k.held)
    (places_put old.sequence.elements new.sequence.elements c.place_of-place.result 1 old.marks old.places new.places put c.shift.ensures k.places)

pub returns-in-Remove : goal.returns-in-Remove
returns-in-Remove c = λ ops k m.
    let old = c.args.self.now in
    let new : Parts = record { sequence = c.remove.new.self; marks = old.marks; places = old.places; newest = c.note.new.self } in
    keeps_removal c.remove.result ops c.args.op.now c.in-Remove.id c.in-Remove.target old new c.in-Remove.is k m.accepted refl refl
    (c.in_ok-note.ensures.noted ops c.args.op.now (sym c.id.ensures) k.newest)
    (c.remove.ensures.shows ops k.shows m.accepted)
    (c.remove.ensures.held (filter is_edit ops) k.held)

pub returns-in-Revive : goal.returns-in-Revive
returns-in-Revive c = λ ops k m.
    let old = c.args.self.now in
    let new : Parts = record { sequence = c.revive.new.self; marks = old.marks; places = old.places; newest = c.note.new.self } in
    keeps_revival c.revive.result ops c.args.op.now c.in-Revive.id c.in-Revive.removal old new c.in-Revive.is k m.accepted refl refl
    (c.in_ok-note.ensures.noted ops c.args.op.now (sym c.id.ensures) k.newest)
    (c.revive.ensures.shows ops (filter is_edit ops) (edits_part ops) k.held k.shows m.accepted)
    (c.revive.ensures.held (filter is_edit ops) k.held)

pub returns-in-AddMark : goal.returns-in-AddMark
returns-in-AddMark c = λ ops k m.
    let old = c.args.self.now in
    let new : Parts = record { sequence = old.sequence; marks = c.add_mark.new.marks; places = c.add_mark.new.places; newest = c.note.new.self } in
    keeps_mark c.add_mark.result ops c.args.op.now old new (ap is_edit c.in-AddMark.is) (ap is_mark c.in-AddMark.is) k refl
    (c.in_ok-note.ensures.noted ops c.args.op.now (sym c.id.ensures) k.newest)
    (shows_mark ops c.args.op.now old.sequence.elements (ap is_edit c.in-AddMark.is) k.shows m.accepted) c.add_mark.ensures.marks (c.add_mark.ensures.places k.places)

pub returns-in-RemoveMark : goal.returns-in-RemoveMark
returns-in-RemoveMark c = λ ops k m.
    let old = c.args.self.now in
    let new : Parts = record { sequence = old.sequence; marks = c.add_mark-in-RemoveMark.new.marks; places = c.add_mark-in-RemoveMark.new.places; newest = c.note.new.self } in
    keeps_mark c.add_mark-in-RemoveMark.result ops c.args.op.now old new (ap is_edit c.in-RemoveMark.is) (ap is_mark c.in-RemoveMark.is) k refl
    (c.in_ok-note.ensures.noted ops c.args.op.now (sym c.id.ensures) k.newest)
    (shows_mark ops c.args.op.now old.sequence.elements (ap is_edit c.in-RemoveMark.is) k.shows m.accepted) c.add_mark-in-RemoveMark.ensures.marks (c.add_mark-in-RemoveMark.ensures.places k.places)
