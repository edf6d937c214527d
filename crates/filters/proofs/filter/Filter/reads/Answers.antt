use Rattle.std.proofs.Common.{◌≡◌, ℕ, ◌≤◌, ◌∙◌, length, sym, ap, subst, arith}
use Rattle.semantics.specs.Step.{Program}
use Rattle.block_layout.specs.Meaning.{IsForward}
use Rattle.filters.specs.Codes.{program_in, IsKept}
use Rattle.filters.specs.Filters.{DeterminesRuns}
use Rattle.filters.proofs.Ends.{straight_reads}
use Rattle.filters.proofs.filter.Filter.reads.Goals as goal

pub returns-in-Straight : goal.returns-in-Straight
returns-in-Straight c =
    let same : c.in-Straight.program ≡ c.args.self.now = sym (ap program_in c.in-Straight.is) ∙ c.self.view_is in
    let few : length c.rows.result.now ≤ 4096 = omega (arith, c.len-rows.ensures.value, c.len-rows.ensures.few) in
    let short = subst (λ (program : Program). length program ≤ 4096) c.rows.ensures.program few in
    subst (λ (program : Program). DeterminesRuns c.reads.result program) same
    (straight_reads c.in-Straight.program c.reads.result short c.rows.ensures.safe c.reads.ensures)

pub returns-in-Looping : goal.returns-in-Looping
returns-in-Looping c =
    let same : c.in-Looping.field-0 ≡ c.args.self.now = sym (ap program_in c.in-Looping.is) ∙ c.self.view_is in
    let kept = subst IsKept c.in-Looping.is c.self.invariant in
    λ forward. kept.0 (subst (λ (program : Program). IsForward program) (sym same) forward)
