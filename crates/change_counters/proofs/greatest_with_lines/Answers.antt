use Rattle.std.proofs.Common.{rules, arith, ◌≡◌, max}
use Rattle.change_ops.specs.Lines.{ops_of_lines}
use Rattle.change_counters.specs.Counters.{greatest_counter}
use Rattle.change_counters.proofs.Greatest.{greatest_more, greatest_done}
use Rattle.change_counters.proofs.greatest_with_lines.Goals as goal

pub returns : goal.returns
returns c = greatest_done c.args.lines.now c.loop-line.line-index _ _ c.loop-line-test.false c.loop-line.invariant

pub loop-line-preserved : goal.loop-line-preserved
loop-line-preserved c =
    let greatest = c.loop-line.greatest in
    let own = c.greatest_of_line.result in
    let next = c.max-greatest.result in
    let found : next ≡ max greatest own = grind (arith, c.max-greatest.ensures) in
    greatest_more c.args.lines.now c.line-item.result c.loop-line.line-index greatest own next
    (max c.args.counter (greatest_counter (ops_of_lines c.args.lines.now)))
    c.loop-line-test.true c.line-item.is c.greatest_of_line.ensures found c.loop-line.invariant
