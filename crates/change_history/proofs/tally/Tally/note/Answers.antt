use Rattle.std.proofs.Common.{◌≡◌, ◌+◌, ◌++◌, ◌∷◌, [], refl, sym, ap, ◌∙◌}
use Rattle.change_ops.specs.Operations.{id_of, is_insert, is_mark}
use Rattle.change_ops.specs.declared.id.OpId.{OpId}
use Rattle.change_ops.specs.declared.operation.Op.{Op}
use Rattle.change_ops.specs.declared.operation.Op.TheVariants.{Insert}
use Rattle.change_history.specs.declared.tally.Tally.{Tally}
use Rattle.change_history.proofs.Counting.{noted_insert, noted_mark, noted_edit, removes, removed_same, removed_more}
use Rattle.change_history.proofs.tally.Tally.note.Goals as goal

pub returns-in_ok-push-in-Insert : goal.returns-in_ok-push-in-Insert
returns-in_ok-push-in-Insert c = λ size ops own node t of m.
    let old : Tally = c.args.self.now in
    let op : Op = c.args.op.now in
    let new : Tally = record { node = old.node; last = c.counter-counter.result; characters = old.characters + 1; marks = old.marks; inserted = c.push.new.self; removed = old.removed } in
    let last : c.counter-counter.result ≡ (id_of op).counter = c.counter-counter.ensures.value ∙ ap (λ (i : OpId). i.counter) c.id.ensures in
    let is : op ≡ Insert (id_of op) c.in-Insert.parent c.in-Insert.character = c.in-Insert.is ∙ ap (λ (i : OpId). Insert i c.in-Insert.parent c.in-Insert.character) (sym (ap id_of c.in-Insert.is)) in
    noted_insert ops own op node old new t of m refl last c.in-Insert.parent c.in-Insert.character is (ap is_insert c.in-Insert.is) (ap is_mark c.in-Insert.is)
    (c.in_ok-push-in-Insert.ensures.items ∙ ap (λ n. old.inserted.items ++ n ∷ []) last) refl refl
    (removed_same own op old.removed new.removed (ap removes c.in-Insert.is) refl t.removed)

pub returns-in_ok-insert-in-Remove : goal.returns-in_ok-insert-in-Remove
returns-in_ok-insert-in-Remove c = λ size ops own node t of m.
    let old : Tally = c.args.self.now in
    let op : Op = c.args.op.now in
    let new : Tally = record { node = old.node; last = c.counter-counter.result; characters = old.characters; marks = old.marks; inserted = old.inserted; removed = c.insert.new.self } in
    noted_edit ops own op node old new t of m refl (c.counter-counter.ensures.value ∙ ap (λ (i : OpId). i.counter) c.id.ensures) (ap is_insert c.in-Remove.is) (ap is_mark c.in-Remove.is) refl refl refl
    (removed_more own op c.in-Remove.id c.in-Remove.target old.removed new.removed c.in-Remove.is c.in_ok-insert-in-Remove.ensures.ok t.removed)

pub returns-in-Revive : goal.returns-in-Revive
returns-in-Revive c = λ size ops own node t of m.
    let old : Tally = c.args.self.now in
    let op : Op = c.args.op.now in
    let new : Tally = record { node = old.node; last = c.counter-counter.result; characters = old.characters; marks = old.marks; inserted = old.inserted; removed = old.removed } in
    noted_edit ops own op node old new t of m refl (c.counter-counter.ensures.value ∙ ap (λ (i : OpId). i.counter) c.id.ensures) (ap is_insert c.in-Revive.is) (ap is_mark c.in-Revive.is) refl refl refl
    (removed_same own op old.removed new.removed (ap removes c.in-Revive.is) refl t.removed)

pub returns-in-AddMark : goal.returns-in-AddMark
returns-in-AddMark c = λ size ops own node t of m.
    let old : Tally = c.args.self.now in
    let op : Op = c.args.op.now in
    let new : Tally = record { node = old.node; last = c.counter-counter.result; characters = old.characters; marks = old.marks + 1; inserted = old.inserted; removed = old.removed } in
    noted_mark ops own op node old new t of m refl (c.counter-counter.ensures.value ∙ ap (λ (i : OpId). i.counter) c.id.ensures) (ap is_insert c.in-AddMark.is) (ap is_mark c.in-AddMark.is) refl refl refl
    (removed_same own op old.removed new.removed (ap removes c.in-AddMark.is) refl t.removed)

pub returns-in-RemoveMark : goal.returns-in-RemoveMark
returns-in-RemoveMark c = λ size ops own node t of m.
    let old : Tally = c.args.self.now in
    let op : Op = c.args.op.now in
    let new : Tally = record { node = old.node; last = c.counter-counter.result; characters = old.characters; marks = old.marks + 1; inserted = old.inserted; removed = old.removed } in
    noted_mark ops own op node old new t of m refl (c.counter-counter.ensures.value ∙ ap (λ (i : OpId). i.counter) c.id.ensures) (ap is_insert c.in-RemoveMark.is) (ap is_mark c.in-RemoveMark.is) refl refl refl
    (removed_same own op old.removed new.removed (ap removes c.in-RemoveMark.is) refl t.removed)
