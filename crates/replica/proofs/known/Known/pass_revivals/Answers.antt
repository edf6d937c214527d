use Rattle.std.proofs.Common.{◌≡◌, Err, length, arith, sym, subst}
use Rattle.std.proofs.lemmas.Grind.{common_steps}
use Rattle.change_ops.specs.IdRuns.{revivals_of}
use Rattle.change_ops.specs.declared.line.Line.TheVariants.{Revivals}
use Rattle.change_ops.proofs.SpelledLines.{ops_count}
use Rattle.replica.specs.Knowing.{Passes}
use Rattle.replica.proofs.Stretches.{passes_none, pass_next, pass_stop, pass_whole}
use Rattle.replica.proofs.known.Known.pass_revivals.Goals as goal

pub loop-index-init : goal.loop-index-init
loop-index-init c = passes_none c.args.self.now

pub returns-in_err-pass : goal.returns-in_err-pass
returns-in_err-pass c =
    let given : c.from_residual.result ≡ Err c.in_err-pass.field-0.0 = grind (arith, common_steps) in
    subst (λ r. Passes (revivals_of c.args.run) c.args.self.now c.pass.new.self r) (sym given)
    (pass_stop c.loop-index.index (revivals_of c.args.run) c.revival.result c.args.self.now c.loop-index.self c.pass.new.self c.pass.new.self c.in_err-pass.field-0.0 c.revival.ensures c.loop-index.invariant c.in_err-pass.ensures)

pub loop-index-preserved : goal.loop-index-preserved
loop-index-preserved c = pass_next c.loop-index.index (revivals_of c.args.run) c.revival.result c.args.self.now c.loop-index.self c.pass.new.self c.revival.ensures c.loop-index.invariant c.in_ok-pass.ensures

pub returns : goal.returns
returns c =
    let count : length (revivals_of c.args.run) ≡ c.args.run.count = ops_count (Revivals c.args.run) in
    let end = c.count-index-end.ensures.value in
    let whole : c.loop-index.index ≡ length (revivals_of c.args.run) = omega arith in
    pass_whole c.loop-index.index (revivals_of c.args.run) c.args.self.now c.loop-index.self whole c.loop-index.invariant
