use Rattle.std.proofs.Common.{◌≡◌, Err, length, arith, ap, sym, subst}
use Rattle.std.proofs.lemmas.Grind.{common_steps}
use Rattle.change_ops.specs.Runs.{inserts_of}
use Rattle.change_ops.specs.declared.line.Line.TheVariants.{Run}
use Rattle.change_ops.proofs.SpelledLines.{ops_count}
use Rattle.replica.specs.Knowing.{Passes}
use Rattle.replica.proofs.Stretches.{passes_none, pass_next, pass_stop, pass_whole}
use Rattle.replica.proofs.known.Known.pass_run.Goals as goal

pub loop-index-init : goal.loop-index-init
loop-index-init c = passes_none c.args.self.now

pub returns-in_err-pass : goal.returns-in_err-pass
returns-in_err-pass c =
    let given : c.from_residual.result ≡ Err c.in_err-pass.field-0.0 = grind (arith, common_steps) in
    subst (λ r. Passes (inserts_of c.args.run.now) c.args.self.now c.pass.new.self r) (sym given)
    (pass_stop c.loop-index.index (inserts_of c.args.run.now) c.insert.result c.args.self.now c.loop-index.self c.pass.new.self c.pass.new.self c.in_err-pass.field-0.0 c.insert.ensures c.loop-index.invariant c.in_err-pass.ensures)

pub loop-index-preserved : goal.loop-index-preserved
loop-index-preserved c = pass_next c.loop-index.index (inserts_of c.args.run.now) c.insert.result c.args.self.now c.loop-index.self c.pass.new.self c.insert.ensures c.loop-index.invariant c.in_ok-pass.ensures

pub returns : goal.returns
returns c =
    let count : length (inserts_of c.args.run.now) ≡ length c.args.run.now.characters = ops_count (Run c.args.run.now) in
    let end = ap length c.characters-index-end.ensures.value in
    let whole : c.loop-index.index ≡ length (inserts_of c.args.run.now) = omega arith in
    pass_whole c.loop-index.index (inserts_of c.args.run.now) c.args.self.now c.loop-index.self whole c.loop-index.invariant
