use Rattle.std.proofs.Common.{ap}
use Rattle.std.specs.List.{filter}
use Rattle.change_ops.specs.Operations.{is_edit}
use Rattle.change_history.proofs.Edits.{edits_part}
use Rattle.change_history.proofs.Sizes.{accepts_large}
use Rattle.change_history.proofs.Trying.{behind_edit, behind_mark, accepts_behind}
use Rattle.change_history.proofs.trial.pass.Goals as goal

pub insert-requires-clause-accepted : goal.insert-requires-clause-accepted
insert-requires-clause-accepted c = λ others held. accepts_behind c.requires.1.0 others c.args.op.now c.args.sequence.now c.requires.1.1 c.requires.1.2 held

pub remove-requires-clause-removal : goal.remove-requires-clause-removal
remove-requires-clause-removal c = (c.in-Remove.id, (c.in-Remove.target, c.in-Remove.is))

pub remove-requires-clause-accepted : goal.remove-requires-clause-accepted
remove-requires-clause-accepted c = λ others held. accepts_behind c.requires.1.0 others c.args.op.now c.args.sequence.now c.requires.1.1 c.requires.1.2 held

pub revive-requires-clause-revival : goal.revive-requires-clause-revival
revive-requires-clause-revival c = (c.in-Revive.id, (c.in-Revive.removal, c.in-Revive.is))

pub revive-requires-clause-accepted : goal.revive-requires-clause-accepted
revive-requires-clause-accepted c = λ others held. accepts_behind c.requires.1.0 others c.args.op.now c.args.sequence.now c.requires.1.1 c.requires.1.2 held

pub returns-in-Insert : goal.returns-in-Insert
returns-in-Insert c = λ size ops is a.
    behind_edit c.insert.result ops c.args.op.now c.insert.new.self (ap is_edit c.in-Insert.is)
    (c.insert.ensures.shows ops is.shows (accepts_large a)) (c.insert.ensures.held (filter is_edit ops) is.held)

pub returns-in-Remove : goal.returns-in-Remove
returns-in-Remove c = λ size ops is a.
    behind_edit c.remove.result ops c.args.op.now c.remove.new.self (ap is_edit c.in-Remove.is)
    (c.remove.ensures.shows ops is.shows (accepts_large a)) (c.remove.ensures.held (filter is_edit ops) is.held)

pub returns-in-Revive : goal.returns-in-Revive
returns-in-Revive c = λ size ops is a.
    behind_edit c.revive.result ops c.args.op.now c.revive.new.self (ap is_edit c.in-Revive.is)
    (c.revive.ensures.shows ops (filter is_edit ops) (edits_part ops) is.held is.shows (accepts_large a)) (c.revive.ensures.held (filter is_edit ops) is.held)

pub returns-in-AddMark : goal.returns-in-AddMark
returns-in-AddMark c = λ size ops is a. behind_mark ops c.args.op.now c.args.sequence.now (ap is_edit c.in-AddMark.is) is a

pub returns-in-RemoveMark : goal.returns-in-RemoveMark
returns-in-RemoveMark c = λ size ops is a. behind_mark ops c.args.op.now c.args.sequence.now (ap is_edit c.in-RemoveMark.is) is a
