use Rattle.std.proofs.Common.{◌≡◌, ◌+◌, ◌++◌, length, take, arith, subst}
use Rattle.change_ops.specs.IdRuns.{removals_of}
use Rattle.change_ops.specs.declared.line.Line.TheVariants.{Removals}
use Rattle.change_ops.proofs.SpelledLines.{ops_count}
use Rattle.change_history.specs.Kept.{IsApplied}
use Rattle.change_history.proofs.Chronicle.{applying_begun, applying_more, applied_next, follows_at}
use Rattle.change_history.proofs.history.apply_removals.Goals as goal

pub loop-index-init : goal.loop-index-init
loop-index-init c = λ ops added from a stand. applying_begun ops added from c.args.parts.now a

pub add-requires : goal.add-requires
add-requires c =
    let ops = c.requires.0 in
    let added = c.requires.1.0 in
    let at = c.requires.1.1.0 + c.loop-index.index in
    let stand = c.requires.1.1.2 in
    let so_far = c.loop-index.invariant ops added c.requires.1.1.0 c.requires.1.1.1 stand in
    (ops ++ take at added, so_far.kept, follows_at ops added at c.loop-index.parts c.removal.result so_far (stand c.loop-index.index c.removal.result c.removal.ensures))

pub loop-index-preserved : goal.loop-index-preserved
loop-index-preserved c = λ ops added from a stand.
    let at = from + c.loop-index.index in
    let op = c.removal.result in
    let so_far = c.loop-index.invariant ops added from a stand in
    let here = stand c.loop-index.index op c.removal.ensures in
    applying_more ops added from c.loop-index.index c.add.new.self
    (applied_next ops added at c.loop-index.parts c.add.new.self op so_far here
    (c.in_ok-add.ensures (ops ++ take at added) so_far.kept (follows_at ops added at c.loop-index.parts op so_far here)))

pub returns : goal.returns
returns c = λ ops added from a stand.
    let count : length (removals_of c.args.run) ≡ c.args.run.count = ops_count (Removals c.args.run) in
    let end = c.count-index-end.ensures.value in
    let whole : from + c.loop-index.index ≡ from + length (removals_of c.args.run) = omega arith in
    subst (λ n. IsApplied ops added n c.loop-index.parts) whole (c.loop-index.invariant ops added from a stand)
