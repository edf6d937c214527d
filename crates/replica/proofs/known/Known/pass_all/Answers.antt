use Rattle.std.proofs.Common.{◌≡◌, Some, Err, length, arith, refl, sym, subst}
use Rattle.std.specs.List.{slice_get}
use Rattle.std.proofs.lemmas.Grind.{common_steps}
use Rattle.std.proofs.lemmas.Option.{slice_get_read}
use Rattle.change_ops.specs.Lines.{ops_of_lines}
use Rattle.replica.specs.Knowing.{Passes}
use Rattle.replica.proofs.Stretches.{none_passed, lines_pass_next, lines_pass_stop, lines_pass_whole}
use Rattle.replica.proofs.known.Known.pass_all.Goals as goal

pub loop-index-init : goal.loop-index-init
loop-index-init c = none_passed c.args.self.now

pub returns-in_err-pass_line : goal.returns-in_err-pass_line
returns-in_err-pass_line c =
    let lines = c.args.lines.now in
    let here : slice_get lines c.loop-index.index ≡ Some c.index-lines-index.result =
    slice_get_read lines (length lines) c.loop-index.index c.index-lines-index.result refl c.loop-index-test.true c.index-lines-index.is in
    let given : c.from_residual.result ≡ Err c.in_err-pass_line.field-0.0 = grind (arith, common_steps) in
    subst (λ r. Passes (ops_of_lines lines) c.args.self.now c.pass_line.new.self r) (sym given)
    (lines_pass_stop c.loop-index.index lines c.index-lines-index.result c.args.self.now c.loop-index.self c.pass_line.new.self c.pass_line.new.self c.in_err-pass_line.field-0.0 here c.loop-index.invariant c.in_err-pass_line.ensures)

pub loop-index-preserved : goal.loop-index-preserved
loop-index-preserved c =
    let lines = c.args.lines.now in
    let here : slice_get lines c.loop-index.index ≡ Some c.index-lines-index.result =
    slice_get_read lines (length lines) c.loop-index.index c.index-lines-index.result refl c.loop-index-test.true c.index-lines-index.is in
    lines_pass_next c.loop-index.index lines c.index-lines-index.result c.args.self.now c.loop-index.self c.pass_line.new.self here c.loop-index.invariant c.in_ok-pass_line.ensures

pub returns : goal.returns
returns c =
    let whole : c.loop-index.index ≡ length c.args.lines.now = omega arith in
    lines_pass_whole c.loop-index.index c.args.lines.now c.args.self.now c.loop-index.self whole c.loop-index.invariant
