use Rattle.std.proofs.Common.{◌≡◌, ◌+◌, ◌<◌, Err, length, arith, sym, subst}
use Rattle.std.proofs.lemmas.Grind.{common_steps}
use Rattle.change_ops.specs.IdRuns.{removals_of}
use Rattle.change_ops.specs.declared.line.Line.TheVariants.{Removals}
use Rattle.change_ops.proofs.SpelledLines.{ops_count}
use Rattle.change_history.specs.Trial.{IsTried, StretchTried}
use Rattle.change_history.proofs.Chronicle.{stand_one}
use Rattle.change_history.proofs.Trying.{try_begun, try_more, try_refused}
use Rattle.change_history.proofs.trial.try_removals.Goals as goal

pub loop-index-init : goal.loop-index-init
loop-index-init c = λ ops added from node a stand. try_begun ops added from node c.args.parts.now c.args.trial.now a

pub try_one-requires : goal.try_one-requires
try_one-requires c =
    let ops = c.requires.0 in
    let added = c.requires.1.0 in
    let from = c.requires.1.1.0 in
    let node = c.requires.1.1.1.0 in
    let a = c.requires.1.1.1.1 in
    let stand = c.requires.1.1.1.2 in
    (ops, (added, (from + c.loop-index.index, (node, c.loop-index.invariant ops added from node a stand, stand_one added (from + c.loop-index.index) c.removal.result (stand c.loop-index.index c.removal.result c.removal.ensures)))))

pub returns-in_err-try_one : goal.returns-in_err-try_one
returns-in_err-try_one c = λ ops added from node a stand.
    let so_far = c.loop-index.invariant ops added from node a stand in
    let here = stand c.loop-index.index c.removal.result c.removal.ensures in
    let told = c.in_err-try_one.ensures ops added (from + c.loop-index.index) node so_far (stand_one added (from + c.loop-index.index) c.removal.result here) in
    let given : c.from_residual.result ≡ Err c.in_err-try_one.field-0.0 = grind (arith, common_steps) in
    let count : length (removals_of c.args.run) ≡ c.args.run.count = ops_count (Removals c.args.run) in
    let end = c.count-index-end.ensures.value in
    let below : c.loop-index.index < length (removals_of c.args.run) = omega arith in
    subst (λ r. StretchTried c.args.size ops added from (length (removals_of c.args.run)) node c.args.parts.now c.try_one.new.trial r) (sym given)
    (try_refused c.args.size ops added from c.loop-index.index (length (removals_of c.args.run)) node c.args.parts.now c.try_one.new.trial c.in_err-try_one.field-0.0 below told)

pub loop-index-preserved : goal.loop-index-preserved
loop-index-preserved c = λ ops added from node a stand.
    let so_far = c.loop-index.invariant ops added from node a stand in
    let here = stand c.loop-index.index c.removal.result c.removal.ensures in
    try_more ops added from c.loop-index.index node c.args.parts.now c.try_one.new.trial (c.in_ok-try_one.ensures ops added (from + c.loop-index.index) node so_far (stand_one added (from + c.loop-index.index) c.removal.result here))

pub returns : goal.returns
returns c = λ ops added from node a stand.
    let count : length (removals_of c.args.run) ≡ c.args.run.count = ops_count (Removals c.args.run) in
    let end = c.count-index-end.ensures.value in
    let whole : from + c.loop-index.index ≡ from + length (removals_of c.args.run) = omega arith in
    subst (λ n. IsTried c.args.size ops added n node c.args.parts.now c.loop-index.trial) whole (c.loop-index.invariant ops added from node a stand)
