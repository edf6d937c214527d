use Rattle.std.proofs.Common.{◌≡◌, Some, length, arith, refl}
use Rattle.std.specs.List.{slice_get}
use Rattle.std.proofs.lemmas.Option.{slice_get_read}
use Rattle.change_ops.specs.Lines.{ops_of_lines}
use Rattle.change_history.proofs.Chronicle.{begin_of, applying_lines, line_stands, line_applied, applied_all}
use Rattle.change_history.proofs.history.apply_all.Goals as goal

pub loop-index-init : goal.loop-index-init
loop-index-init c = λ ops k all. applying_lines ops c.args.lines.now c.args.parts.now k all

pub apply_line-requires : goal.apply_line-requires
apply_line-requires c =
    let lines = c.args.lines.now in
    let here : slice_get lines c.loop-index.index ≡ Some c.index-lines-index.result =
    slice_get_read lines (length lines) c.loop-index.index c.index-lines-index.result refl c.loop-index-test.true c.index-lines-index.is in
    (c.requires.0, (ops_of_lines lines, (begin_of lines c.loop-index.index, c.loop-index.invariant c.requires.0 c.requires.1 c.requires.2, line_stands lines c.loop-index.index c.index-lines-index.result here)))

pub loop-index-preserved : goal.loop-index-preserved
loop-index-preserved c = λ ops k all.
    let lines = c.args.lines.now in
    let here : slice_get lines c.loop-index.index ≡ Some c.index-lines-index.result =
    slice_get_read lines (length lines) c.loop-index.index c.index-lines-index.result refl c.loop-index-test.true c.index-lines-index.is in
    line_applied ops lines c.loop-index.index c.index-lines-index.result c.apply_line.new.parts here
    (c.in_ok-apply_line.ensures ops (ops_of_lines lines) (begin_of lines c.loop-index.index) (c.loop-index.invariant ops k all) (line_stands lines c.loop-index.index c.index-lines-index.result here))

pub returns : goal.returns
returns c = λ ops k all.
    let whole : c.loop-index.index ≡ length c.args.lines.now = omega arith in
    applied_all ops c.args.lines.now c.loop-index.index c.loop-index.parts whole (c.loop-index.invariant ops k all)
