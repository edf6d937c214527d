use Rattle.std.proofs.Common.{◌≡◌, ◌+◌, length, ap, arith, subst}
use Rattle.change_ops.specs.Runs.{inserts_of}
use Rattle.change_ops.specs.declared.line.Line.TheVariants.{Run}
use Rattle.change_ops.proofs.SpelledLines.{ops_count}
use Rattle.change_history.specs.Kept.{IsApplied}
use Rattle.change_history.proofs.Chronicle.{applying_begun}
use Rattle.change_history.proofs.history.apply_run.Goals as goal

pub loop-applied-init : goal.loop-applied-init
loop-applied-init c = (λ ops added from a stand. applying_begun ops added from c.args.parts.now a, omega arith)

pub apply_some-requires-clause-next : goal.apply_some-requires-clause-next
apply_some-requires-clause-next c =
    let ops = c.requires.0 in
    let added = c.requires.1.0 in
    let from = c.requires.1.1.0 in
    let stand = c.requires.1.1.2 in
    (ops, (added, (from, c.loop-applied.invariant.0 ops added from c.requires.1.1.1 stand, stand)))

pub returns : goal.returns
returns c = λ ops added from a stand.
    let count : length (inserts_of c.args.run.now) ≡ length c.args.run.now.characters = ops_count (Run c.args.run.now) in
    let end = ap length c.characters-end.ensures.value in
    let most = c.loop-applied.invariant.1 in
    let whole : from + c.loop-applied.applied ≡ from + length (inserts_of c.args.run.now) = omega arith in
    subst (λ n. IsApplied ops added n c.loop-applied.parts) whole (c.loop-applied.invariant.0 ops added from a stand)
