use Rattle.std.proofs.Common.{◌≡◌, ◌<◌, ◌≤◌, get_or, subst, ap, arith, ⊎_elim}
use Rattle.std.specs.List.{Contains}
use Rattle.std.proofs.lemmas.Bool.{cases_lt}
use Rattle.std.proofs.lemmas.List.{get_or_default}
use Rattle.std.proofs.lemmas.List.Elements.{Contains-get_or}
use Rattle.mark_places.proofs.block.least_of.Goals as goal

pub loop-rank-preserved : goal.loop-rank-preserved
loop-rank-preserved c =
    let i = c.loop-rank.rank-index in
    let ranks = c.args.ranks.now in
    let was = c.loop-rank.least in
    let is = c.min-least.ensures in
    record {
      bound =
          λ k less.
          ⊎_elim
          (λ (old : k < i). let low = c.loop-rank.invariant.bound k old in omega (arith, low, is))
          (λ (new : i ≤ k). let same : k ≡ i = omega arith in omega (arith, is, ap (λ j. get_or ranks j 0) same))
          (cases_lt k i);
      reached =
          ⊎_elim
          (λ (less : get_or ranks i 0 < was).
          let same : get_or ranks i 0 ≡ c.min-least.result = omega (arith, is) in
          subst (Contains ranks) same (Contains-get_or ranks i 0 c.loop-rank-test.true))
          (λ (low : was ≤ get_or ranks i 0).
          let same : was ≡ c.min-least.result = omega (arith, is) in
          subst (Contains ranks) same c.loop-rank.invariant.reached)
          (cases_lt (get_or ranks i 0) was);
    }

pub returns-clause-bound : goal.returns-clause-bound
returns-clause-bound c =
    λ k d less. subst (λ x. c.loop-rank.least ≤ x) (get_or_default c.args.ranks.now k 0 d less) (c.loop-rank.invariant.bound k (omega arith))
