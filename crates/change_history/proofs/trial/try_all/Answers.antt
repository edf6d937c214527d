use Rattle.std.proofs.Common.{◌≡◌, Some, None, length, arith, refl, sym, subst}
use Rattle.std.specs.List.{slice_get}
use Rattle.std.proofs.lemmas.Option.{slice_get_read}
use Rattle.change_ops.specs.Lines.{ops_of_lines}
use Rattle.change_history.specs.Kept.{IsNotAccepted}
use Rattle.change_history.proofs.Chronicle.{begin_of, line_stands}
use Rattle.change_history.proofs.Trying.{trial_begun, line_tried, refused_try_at, tried_all}
use Rattle.change_history.proofs.trial.try_all.Goals as goal

pub loop-index-init : goal.loop-index-init
loop-index-init c = λ ops k.
    trial_begun ops c.args.lines.now c.args.node c.args.parts.now (record { tally = c.tally.result; copy = None }) k c.requires.own (c.tally.ensures ops k) refl

pub try_line-requires : goal.try_line-requires
try_line-requires c =
    let lines = c.args.lines.now in
    let here : slice_get lines c.loop-index.index ≡ Some c.index-lines-index.result =
    slice_get_read lines (length lines) c.loop-index.index c.index-lines-index.result refl c.loop-index-test.true c.index-lines-index.is in
    (c.requires.kept.0, (ops_of_lines lines, (begin_of lines c.loop-index.index, (c.args.node, c.loop-index.invariant c.requires.kept.0 c.requires.kept.1, line_stands lines c.loop-index.index c.index-lines-index.result here))))

pub returns-in-Err : goal.returns-in-Err
returns-in-Err c = λ ops k.
    let lines = c.args.lines.now in
    let here : slice_get lines c.loop-index.index ≡ Some c.index-lines-index.result =
    slice_get_read lines (length lines) c.loop-index.index c.index-lines-index.result refl c.loop-index-test.true c.index-lines-index.is in
    let told = c.in-Err.ensures ops (ops_of_lines lines) (begin_of lines c.loop-index.index) c.args.node (c.loop-index.invariant ops k) (line_stands lines c.loop-index.index c.index-lines-index.result here) in
    subst (λ e. IsNotAccepted c.args.size ops lines e) (sym c.at_index.ensures)
    (refused_try_at c.args.size ops lines c.loop-index.index c.args.node c.index-lines-index.result c.args.parts.now c.try_line.new.trial c.in-Err.error here told)

pub loop-index-preserved : goal.loop-index-preserved
loop-index-preserved c = λ ops k.
    let lines = c.args.lines.now in
    let here : slice_get lines c.loop-index.index ≡ Some c.index-lines-index.result =
    slice_get_read lines (length lines) c.loop-index.index c.index-lines-index.result refl c.loop-index-test.true c.index-lines-index.is in
    let told = c.in_default.ensures ops (ops_of_lines lines) (begin_of lines c.loop-index.index) c.args.node (c.loop-index.invariant ops k) (line_stands lines c.loop-index.index c.index-lines-index.result here) in
    line_tried ops lines c.loop-index.index c.args.node c.index-lines-index.result c.args.parts.now c.try_line.new.trial here told

pub returns : goal.returns
returns c = λ ops k.
    let whole : c.loop-index.index ≡ length c.args.lines.now = omega arith in
    tried_all ops c.args.lines.now c.loop-index.index c.args.node c.args.parts.now c.loop-index.trial whole (c.loop-index.invariant ops k)
