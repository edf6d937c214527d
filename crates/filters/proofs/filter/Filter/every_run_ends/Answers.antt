use Rattle.std.proofs.Common.{◌≡◌, ℕ, ◌≤◌, ◌∙◌, length, sym, ap, subst, arith}
use Rattle.semantics.specs.Step.{Program}
use Rattle.loop_check.specs.Labels.{bound_of}
use Rattle.filters.specs.Codes.{program_in, IsKept}
use Rattle.filters.specs.Filters.{IsFilter}
use Rattle.filters.proofs.Ends.{straight_filter, looping_filter, looping_bound}
use Rattle.filters.proofs.filter.Filter.every_run_ends.Goals as goal

pub returns-in-Straight : goal.returns-in-Straight
returns-in-Straight c =
    let same : c.in-Straight.program ≡ c.args.self.now = sym (ap program_in c.in-Straight.is) ∙ c.self.view_is in
    let few : length c.rows.result.now ≤ 4096 = omega (arith, c.len-rows.ensures.value, c.len-rows.ensures.few) in
    let short = subst (λ (program : Program). length program ≤ 4096) c.rows.ensures.program few in
    subst (λ (program : Program). IsFilter program) same (straight_filter c.in-Straight.program short c.rows.ensures.safe)

pub returns-in-Looping : goal.returns-in-Looping
returns-in-Looping c =
    let same : c.in-Looping.rows ≡ c.args.self.now = sym (ap program_in c.in-Looping.is) ∙ c.self.view_is in
    let kept = subst IsKept c.in-Looping.is c.self.invariant in
    let bound = bound_of c.in-Looping.bound in
    let ends = looping_bound c.in-Looping.rows bound kept.1 kept.2 in
    subst (λ (program : Program). IsFilter program) same (looping_filter c.in-Looping.rows bound kept.0 ends)
