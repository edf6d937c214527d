use Rattle.std.proofs.Common.{arith}
use Rattle.change_ops.proofs.RoomLaws.{ops_behind, ops_all}
use Rattle.change_ops.proofs.change.meant_by.Goals as goal

pub loop-line-preserved : goal.loop-line-preserved
loop-line-preserved c =
    let left = ops_behind c.args.lines.now c.line-item.result c.loop-line.line-index c.loop-line-test.true c.line-item.is in
    let one = c.meant-meant.ensures.value in
    let so_far = c.loop-line.invariant in
    omega arith

pub returns : goal.returns
returns c =
    let none = ops_all c.args.lines.now c.loop-line.line-index c.loop-line-test.false in
    let all = c.loop-line.invariant in
    omega arith
