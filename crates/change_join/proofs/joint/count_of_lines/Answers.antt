use Rattle.std.proofs.Common.{◌≤◌, arith}
use Rattle.change_ops.specs.Lines.{count_of_lines}
use Rattle.change_join.proofs.Both.{count_more, count_done}
use Rattle.change_join.proofs.joint.count_of_lines.Goals as goal

pub overflow_add-count : goal.overflow_add-count
overflow_add-count c =
    let total = count_of_lines c.args.lines.now in
    let more = count_more c.args.lines.now c.line-item.result c.loop-line.line-index c.loop-line.count c.count-count.result total c.loop-line-test.true c.line-item.is c.count-count.ensures.value c.loop-line.invariant in
    let most : total ≤ 256 = c.requires in
    omega (arith, more)

pub loop-line-preserved : goal.loop-line-preserved
loop-line-preserved c =
    count_more c.args.lines.now c.line-item.result c.loop-line.line-index c.loop-line.count c.count-count.result (count_of_lines c.args.lines.now) c.loop-line-test.true c.line-item.is c.count-count.ensures.value c.loop-line.invariant

pub returns : goal.returns
returns c = count_done c.args.lines.now c.loop-line.line-index c.loop-line.count (count_of_lines c.args.lines.now) c.loop-line-test.false c.loop-line.invariant
