use Rattle.std.proofs.Common.{◌≤◌, arith}
use Rattle.change_ops.proofs.LineVerdicts.{some_room}
use Rattle.change_ops.proofs.line_reading.op_in.Goals as goal

pub returns : goal.returns
returns c =
    let some : 1 ≤ c.args.room = omega arith in
    some_room c.args.form c.args.peer c.args.room c.args.line.now c.op_of-read.result some c.op_of-read.ensures
