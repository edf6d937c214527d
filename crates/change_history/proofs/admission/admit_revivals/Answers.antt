use Rattle.std.proofs.Common.{◌≡◌, ◌+◌, ◌<◌, Err, length, arith, sym, subst}
use Rattle.std.proofs.lemmas.Grind.{common_steps}
use Rattle.change_ops.specs.IdRuns.{revivals_of}
use Rattle.change_ops.specs.declared.line.Line.TheVariants.{Revivals}
use Rattle.change_ops.proofs.SpelledLines.{ops_count}
use Rattle.change_history.specs.Tally.{IsAdmitted, StretchAdmitted}
use Rattle.change_history.proofs.Chronicle.{stand_one, run_begun, run_more, run_refused}
use Rattle.change_history.proofs.admission.admit_revivals.Goals as goal

pub loop-index-init : goal.loop-index-init
loop-index-init c = λ ops added from node a stand. run_begun ops added from node c.args.parts.now c.args.tally.now a

pub admit-requires : goal.admit-requires
admit-requires c =
    let ops = c.requires.0 in
    let added = c.requires.1.0 in
    let from = c.requires.1.1.0 in
    let node = c.requires.1.1.1.0 in
    let a = c.requires.1.1.1.1 in
    let stand = c.requires.1.1.1.2 in
    (ops, (added, (from + c.loop-index.index, (node, c.loop-index.invariant ops added from node a stand, stand_one added (from + c.loop-index.index) c.revival.result (stand c.loop-index.index c.revival.result c.revival.ensures)))))

pub returns-in_err-admit : goal.returns-in_err-admit
returns-in_err-admit c = λ ops added from node a stand.
    let so_far = c.loop-index.invariant ops added from node a stand in
    let here = stand c.loop-index.index c.revival.result c.revival.ensures in
    let told = c.in_err-admit.ensures ops added (from + c.loop-index.index) node so_far (stand_one added (from + c.loop-index.index) c.revival.result here) in
    let given : c.from_residual.result ≡ Err c.in_err-admit.field-0.0 = grind (arith, common_steps) in
    let count : length (revivals_of c.args.run) ≡ c.args.run.count = ops_count (Revivals c.args.run) in
    let end = c.count-index-end.ensures.value in
    let below : c.loop-index.index < length (revivals_of c.args.run) = omega arith in
    subst (λ r. StretchAdmitted c.args.size ops added from (length (revivals_of c.args.run)) node c.args.parts.now c.admit.new.tally r) (sym given)
    (run_refused c.args.size ops added from c.loop-index.index (length (revivals_of c.args.run)) node c.args.parts.now c.admit.new.tally c.in_err-admit.field-0.0 below told)

pub loop-index-preserved : goal.loop-index-preserved
loop-index-preserved c = λ ops added from node a stand.
    let so_far = c.loop-index.invariant ops added from node a stand in
    let here = stand c.loop-index.index c.revival.result c.revival.ensures in
    run_more ops added from c.loop-index.index node c.args.parts.now c.admit.new.tally (c.in_ok-admit.ensures ops added (from + c.loop-index.index) node so_far (stand_one added (from + c.loop-index.index) c.revival.result here))

pub returns : goal.returns
returns c = λ ops added from node a stand.
    let count : length (revivals_of c.args.run) ≡ c.args.run.count = ops_count (Revivals c.args.run) in
    let end = c.count-index-end.ensures.value in
    let whole : from + c.loop-index.index ≡ from + length (revivals_of c.args.run) = omega arith in
    subst (λ n. IsAdmitted c.args.size ops added n node c.args.parts.now c.loop-index.tally) whole (c.loop-index.invariant ops added from node a stand)
