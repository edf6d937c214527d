use Rattle.std.proofs.Common.{◌≡◌, length, arith, refl, inl}
use Rattle.change_ops.specs.IdRuns.{removals_of}
use Rattle.change_ops.specs.declared.line.Line.TheVariants.{Removals}
use Rattle.change_ops.proofs.SpelledLines.{ops_count}
use Rattle.replica.proofs.Stretches.{risen_next, risen_stop, risen_all}
use Rattle.replica.proofs.message.risen_removals.Goals as goal

pub loop-index-init : goal.loop-index-init
loop-index-init c = (tt, refl, inl refl)

pub loop-index-preserved : goal.loop-index-preserved
loop-index-preserved c = risen_next c.args.last c.loop-index.end c.in_ok-next.next c.loop-index.index (removals_of c.args.run) c.removal.result c.removal.ensures c.loop-index.invariant c.in_ok-next.ensures

pub returns-in_err-next : goal.returns-in_err-next
returns-in_err-next c = rw c.from_residual.ensures (risen_stop c.args.last c.loop-index.end c.loop-index.index (removals_of c.args.run) c.removal.result c.removal.ensures c.loop-index.invariant c.in_err-next.ensures)

pub returns : goal.returns
returns c =
    let count : length (removals_of c.args.run) ≡ c.args.run.count = ops_count (Removals c.args.run) in
    let end = c.count-index-end.ensures.value in
    let whole : c.loop-index.index ≡ length (removals_of c.args.run) = omega arith in
    risen_all c.args.last c.loop-index.end c.loop-index.index (removals_of c.args.run) whole c.loop-index.invariant
