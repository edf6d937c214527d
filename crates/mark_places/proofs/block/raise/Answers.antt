use Rattle.std.proofs.Common.{◌∙◌, ◌<◌, length, set, get_or, ap, arith}
use Rattle.std.proofs.lemmas.List.Edits.{map_over_more}
use Rattle.std.proofs.lemmas.List.{take_all, drop_all, get_or_default}
use Rattle.std.proofs.lemmas.Grind.{common_steps}
use Rattle.mark_places.specs.Ranks.{raised}
use Rattle.mark_places.proofs.block.raise.Goals as goal

pub loop-rank-preserved : goal.loop-rank-preserved
loop-rank-preserved c =
    let i = c.loop-rank.rank-index in
    let f = raised c.args.from c.args.by in
    let xs = c.loop-rank.ranks in
    let within : i < length xs = omega arith in
    ap (set c.loop-rank.ranks i) c.raised.ensures ∙ map_over_more f c.args.ranks.now c.loop-rank.ranks i _ c.loop-rank-test.true c.loop-rank.invariant (get_or_default xs i 0 (get_or xs i 0) within)

pub returns : goal.returns
returns c =
    let xs = c.args.ranks.now in
    let n = c.loop-rank.rank-index in
    let f = raised c.args.from c.args.by in
    c.loop-rank.invariant ∙ grind (arith, common_steps, take_all n xs c.loop-rank-test.false, drop_all n xs c.loop-rank-test.false)
