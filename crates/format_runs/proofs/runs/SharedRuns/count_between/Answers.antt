use Rattle.std.proofs.Common.{◌-◌, length, arith, ap}
use Rattle.format_runs.proofs.Over.{over_rises}
use Rattle.format_runs.proofs.Pieces.{sum_parts}
use Rattle.format_runs.proofs.runs.SharedRuns.count_between.Goals as goal

pub overflow_sub-result : goal.overflow_sub-result
overflow_sub-result c =
    over_rises c.args.self.now c.args.from (c.args.to - 1) c.index_over-2.result c.index_over.result (omega (arith, c.if-from-to.false)) c.index_over-2.ensures c.index_over.ensures

pub overflow_add-result : goal.overflow_add-result
overflow_add-result c =
    omega (arith, c.index_over.ensures.within, c.keeps.ensures.short.parts, sum_parts c.self.inside.pieces, ap length c.self.view_is)

pub returns-clause-some : goal.returns-clause-some
returns-clause-some c =
    let rises = over_rises c.args.self.now c.args.from (c.args.to - 1) c.index_over-2.result c.index_over.result (omega (arith, c.if-from-to.false)) c.index_over-2.ensures c.index_over.ensures in
    λ less first last begins ends.
    omega (
      arith,
      rises,
      over_rises c.args.self.now c.args.from c.args.from first c.index_over-2.result (omega arith) begins c.index_over-2.ensures,
      over_rises c.args.self.now c.args.from c.args.from c.index_over-2.result first (omega arith) c.index_over-2.ensures begins,
      over_rises c.args.self.now (c.args.to - 1) (c.args.to - 1) last c.index_over.result (omega arith) ends c.index_over.ensures,
      over_rises c.args.self.now (c.args.to - 1) (c.args.to - 1) c.index_over.result last (omega arith) c.index_over.ensures ends,
    )
