use Rattle.std.proofs.Common.{◌≡◌, ◌+◌, ◌<◌, arith, sym}
use Rattle.std.specs.List.{sum_by}
use Rattle.std.proofs.lemmas.Bool.{le-leb}
use Rattle.change_ops.specs.Lines.{ops_of, ops_of_lines}
use Rattle.change_history.specs.Trial.{growth}
use Rattle.change_history.proofs.Spacing.{line_more, line_none, not_le}
use Rattle.change_history.proofs.trial.has_room.Goals as goal

pub returns-in-None : goal.returns-in-None
returns-in-None c =
    let lines = c.args.lines.now in
    let more = line_more c.args.revived lines c.loop-line.line-index c.line-item.result c.loop-line-test.true c.line-item.is in
    let less : c.loop-line.left < sum_by (growth c.args.revived) (ops_of c.line-item.result) = c.in-None.ensures in
    let so_far = c.loop-line.invariant in
    sym (not_le (sum_by (growth c.args.revived) (ops_of_lines lines)) c.args.room (omega (arith, more, less, so_far)))

pub loop-line-preserved : goal.loop-line-preserved
loop-line-preserved c =
    let lines = c.args.lines.now in
    let more = line_more c.args.revived lines c.loop-line.line-index c.line-item.result c.loop-line-test.true c.line-item.is in
    let left : c.in-Some.behind + sum_by (growth c.args.revived) (ops_of c.line-item.result) ≡ c.loop-line.left = c.in-Some.ensures in
    let so_far = c.loop-line.invariant in
    omega (arith, more, left, so_far)

pub returns : goal.returns
returns c =
    let lines = c.args.lines.now in
    let none = line_none c.args.revived lines c.loop-line.line-index c.loop-line-test.false in
    let so_far = c.loop-line.invariant in
    sym (le-leb (sum_by (growth c.args.revived) (ops_of_lines lines)) c.args.room (omega (arith, none, so_far)))
