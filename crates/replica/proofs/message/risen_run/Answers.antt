use Rattle.std.proofs.Common.{◌≡◌, length, arith, ap, refl, inl}
use Rattle.change_ops.specs.Runs.{inserts_of}
use Rattle.change_ops.specs.declared.line.Line.TheVariants.{Run}
use Rattle.change_ops.proofs.SpelledLines.{ops_count}
use Rattle.replica.proofs.Stretches.{risen_next, risen_stop, risen_all}
use Rattle.replica.proofs.message.risen_run.Goals as goal

pub loop-index-init : goal.loop-index-init
loop-index-init c = (tt, refl, inl refl)

pub loop-index-preserved : goal.loop-index-preserved
loop-index-preserved c = risen_next c.args.last c.loop-index.end c.in_ok-next.next c.loop-index.index (inserts_of c.args.run.now) c.insert.result c.insert.ensures c.loop-index.invariant c.in_ok-next.ensures

pub returns-in_err-next : goal.returns-in_err-next
returns-in_err-next c = rw c.from_residual.ensures (risen_stop c.args.last c.loop-index.end c.loop-index.index (inserts_of c.args.run.now) c.insert.result c.insert.ensures c.loop-index.invariant c.in_err-next.ensures)

pub returns : goal.returns
returns c =
    let count : length (inserts_of c.args.run.now) ≡ length c.args.run.now.characters = ops_count (Run c.args.run.now) in
    let end = ap length c.characters-index-end.ensures.value in
    let whole : c.loop-index.index ≡ length (inserts_of c.args.run.now) = omega arith in
    risen_all c.args.last c.loop-index.end c.loop-index.index (inserts_of c.args.run.now) whole c.loop-index.invariant
