use Rattle.std.proofs.Common.{ap}
use Rattle.change_ops.specs.Operations.{is_mark, is_revival}
use Rattle.replica.proofs.Noting.{noted_insert, noted_removal, noted_mark, noted_revival}
use Rattle.replica.proofs.known.Known.note.Goals as goal

pub returns-in-Insert : goal.returns-in-Insert
returns-in-Insert c = λ ops knows. noted_insert ops c.args.op.now _ _ _ c.args.self.now c.insert.new.self c.insert.result c.in-Insert.is knows c.insert.ensures.ok

pub returns-in-Remove : goal.returns-in-Remove
returns-in-Remove c = λ ops knows. noted_removal ops c.args.op.now _ _ c.args.self.now c.insert-in-Remove.new.self c.insert-in-Remove.result c.in-Remove.is knows c.insert-in-Remove.ensures.ok

pub returns-in-AddMark : goal.returns-in-AddMark
returns-in-AddMark c = λ ops knows. noted_mark ops c.args.op.now c.args.self.now (ap is_mark c.in-AddMark.is) knows

pub returns-in-RemoveMark : goal.returns-in-RemoveMark
returns-in-RemoveMark c = λ ops knows. noted_mark ops c.args.op.now c.args.self.now (ap is_mark c.in-RemoveMark.is) knows

pub returns-in-Revive : goal.returns-in-Revive
returns-in-Revive c = λ ops knows. noted_revival ops c.args.op.now c.args.self.now (ap is_revival c.in-Revive.is) knows
