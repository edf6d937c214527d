use Rattle.std.proofs.Common.{◌≡◌, Some, length, arith, refl}
use Rattle.std.specs.List.{slice_get}
use Rattle.std.proofs.lemmas.Option.{slice_get_read}
use Rattle.replica.proofs.Stretches.{none_risen, lines_risen_next, lines_risen_stop, lines_risen_all}
use Rattle.replica.proofs.message.risen_lines.Goals as goal

pub loop-index-init : goal.loop-index-init
loop-index-init c = none_risen c.args.last

pub loop-index-preserved : goal.loop-index-preserved
loop-index-preserved c =
    let lines = c.args.lines.now in
    let here : slice_get lines c.loop-index.index ≡ Some c.index-lines-index.result =
    slice_get_read lines (length lines) c.loop-index.index c.index-lines-index.result refl c.loop-index-test.true c.index-lines-index.is in
    lines_risen_next c.args.last c.loop-index.end c.in_ok-next.next c.loop-index.index lines c.index-lines-index.result here c.loop-index.invariant c.in_ok-next.ensures

pub returns-in_err-next : goal.returns-in_err-next
returns-in_err-next c =
    let lines = c.args.lines.now in
    let here : slice_get lines c.loop-index.index ≡ Some c.index-lines-index.result =
    slice_get_read lines (length lines) c.loop-index.index c.index-lines-index.result refl c.loop-index-test.true c.index-lines-index.is in
    rw c.from_residual.ensures (lines_risen_stop c.args.last c.loop-index.end c.loop-index.index lines c.index-lines-index.result here c.loop-index.invariant c.in_err-next.ensures)

pub returns : goal.returns
returns c =
    let whole : c.loop-index.index ≡ length c.args.lines.now = omega arith in
    lines_risen_all c.args.last c.loop-index.end c.loop-index.index c.args.lines.now whole c.loop-index.invariant
