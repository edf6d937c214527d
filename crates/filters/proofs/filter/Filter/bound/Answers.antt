use Rattle.std.proofs.Common.{◌≡◌, ℕ, ◌≤◌, ◌∙◌, length, sym, ap, subst, arith}
use Rattle.semantics.specs.Step.{Program}
use Rattle.block_layout.specs.Meaning.{IsForward}
use Rattle.loop_check.specs.Labels.{bound_of}
use Rattle.loop_verifier.specs.Labelled.{HasLabels}
use Rattle.filters.specs.Codes.{program_in, IsKept}
use Rattle.filters.specs.Filters.{IsBoundOf, constant_bound}
use Rattle.filters.proofs.Ends.{straight_bound, looping_bound}
use Rattle.filters.proofs.filter.Filter.bound.Goals as goal

pub returns-in-Straight-clause-bound : goal.returns-in-Straight-clause-bound
returns-in-Straight-clause-bound c =
    let same : c.in-Straight.program ≡ c.args.self.now = sym (ap program_in c.in-Straight.is) ∙ c.self.view_is in
    let few : length c.rows.result.now ≤ 4096 = omega (arith, c.len.ensures.value, c.len.ensures.few) in
    let short = subst (λ (program : Program). length program ≤ 4096) c.rows.ensures.program few in
    subst (λ (program : Program). IsBoundOf program (constant_bound c.len.result)) same
    (straight_bound c.in-Straight.program c.len.result (c.len.ensures.value ∙ ap length c.rows.ensures.program) short c.rows.ensures.safe)

pub returns-in-Straight-clause-straight : goal.returns-in-Straight-clause-straight
returns-in-Straight-clause-straight c =
    let same : c.in-Straight.program ≡ c.args.self.now = sym (ap program_in c.in-Straight.is) ∙ c.self.view_is in
    λ forward. ap constant_bound (c.len.ensures.value ∙ ap length (c.rows.ensures.program ∙ same))

pub returns-in-Straight-clause-labels : goal.returns-in-Straight-clause-labels
returns-in-Straight-clause-labels c =
    let same : c.in-Straight.program ≡ c.args.self.now = sym (ap program_in c.in-Straight.is) ∙ c.self.view_is in
    let forward = subst IsKept c.in-Straight.is c.self.invariant in
    λ loops. absurd (loops (subst (λ (program : Program). IsForward program) same forward))

pub returns-in-Looping-clause-bound : goal.returns-in-Looping-clause-bound
returns-in-Looping-clause-bound c =
    let same : c.in-Looping.field-0 ≡ c.args.self.now = sym (ap program_in c.in-Looping.is) ∙ c.self.view_is in
    let kept = subst IsKept c.in-Looping.is c.self.invariant in
    let bound = bound_of c.in-Looping.bound in
    let ends = looping_bound c.in-Looping.field-0 bound kept.1 kept.2 in
    subst (λ (program : Program). IsBoundOf program bound) same ends

pub returns-in-Looping-clause-straight : goal.returns-in-Looping-clause-straight
returns-in-Looping-clause-straight c =
    let same : c.in-Looping.field-0 ≡ c.args.self.now = sym (ap program_in c.in-Looping.is) ∙ c.self.view_is in
    let kept = subst IsKept c.in-Looping.is c.self.invariant in
    λ forward. absurd (kept.0 (subst (λ (program : Program). IsForward program) (sym same) forward))

pub returns-in-Looping-clause-labels : goal.returns-in-Looping-clause-labels
returns-in-Looping-clause-labels c =
    let same : c.in-Looping.field-0 ≡ c.args.self.now = sym (ap program_in c.in-Looping.is) ∙ c.self.view_is in
    let kept = subst IsKept c.in-Looping.is c.self.invariant in
    λ loops. subst (λ (program : Program). HasLabels program (bound_of c.in-Looping.bound)) same kept.3
