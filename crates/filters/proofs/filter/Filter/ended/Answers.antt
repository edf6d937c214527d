use Rattle.std.proofs.Common.{◌≡◌, ℕ, ◌≤◌, ◌∙◌, length, sym, ap, subst, arith}
use Rattle.semantics.specs.Step.{Program}
use Rattle.span_context.specs.Context.{span_bytes}
use Rattle.semantics.specs.declared.Outcome.TheVariants.{Done}
use Rattle.semantics.specs.Outcomes.{outcome_from}
use Rattle.semantics.specs.State.{start}
use Rattle.semantics.specs.Safe.{Safe}
use Rattle.interpreter.specs.Within.{EndsIn}
use Rattle.loop_check.specs.Labels.{bound_of}
use Rattle.filters.specs.Codes.{program_in, IsKept}
use Rattle.filters.specs.Filters.{whole_outcome}
use Rattle.filters.proofs.Ends.{verdict_within, looping_bound, bounded_ends}
use Rattle.filters.proofs.filter.Filter.ended.Goals as goal

pub run_within-requires-clause-ends : goal.run_within-requires-clause-ends
run_within-requires-clause-ends c =
    subst (λ (n : ℕ). EndsIn n c.rows-rows.result.now) (sym c.len.ensures.value)
    (subst (λ (program : Program). Safe program) (sym c.rows-rows.ensures.program) c.rows-rows.ensures.safe)

pub run_within-requires-in-Looping-clause-ends : goal.run_within-requires-in-Looping-clause-ends
run_within-requires-in-Looping-clause-ends c =
    let kept = subst IsKept c.in-Looping.is c.self.invariant in
    let bound = bound_of c.in-Looping.field-1 in
    let ends = looping_bound c.in-Looping.rows bound kept.1 kept.2 in
    subst (λ (n : ℕ). EndsIn n c.in-Looping.rows) (sym c.longest_run.ensures) (bounded_ends c.in-Looping.rows bound ends)

pub returns-in-Straight-clause-verdict : goal.returns-in-Straight-clause-verdict
returns-in-Straight-clause-verdict c =
    let same : c.in-Straight.program ≡ c.args.self.now = sym (ap program_in c.in-Straight.is) ∙ c.self.view_is in
    let few : length c.rows-rows.result.now ≤ 4096 = omega (arith, c.len.ensures.value, c.len.ensures.few) in
    let bytes = span_bytes c.args.context.now c.args.text.now c.args.link.now in
    let ended = subst (λ (n : ℕ). outcome_from c.rows-rows.result.now bytes n start ≡ Done c.run_within.result) c.len.ensures.value c.run_within.ensures.verdict in
    subst (λ (program : Program). whole_outcome program bytes ≡ Done c.run_within.result) (c.rows-rows.ensures.program ∙ same)
    (verdict_within c.rows-rows.result.now bytes c.run_within.result few ended)
