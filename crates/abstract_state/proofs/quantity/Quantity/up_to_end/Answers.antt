use Rattle.std.proofs.Common.{◌≡◌, ◌-◌, ◌≤◌, ℕ, sym, ap, subst, ◌∙◌, arith}
use Rattle.abstract_state.specs.Lent.{limit_of, tail_of}
use Rattle.abstract_state.specs.declared.region.Tails.{Tails}
use Rattle.abstract_state.specs.Quantity.{Contains, KnowsHigh}
use Rattle.abstract_state.proofs.Options.{at_some, some_is, where_some}
use Rattle.abstract_state.proofs.Regions.{limit_low, limit_power, longest, longest_is}
use Rattle.abstract_state.proofs.KnownBits.{end_bits}
use Rattle.abstract_state.proofs.quantity.Quantity.up_to_end.Goals as goal

pub returns-clause-contains : goal.returns-clause-contains
returns-clause-contains c = λ lengths x h e. c.normal.ensures.contains lengths x (c.between.ensures.contains x (omega arith) h) (record { low = omega arith; high = h }) (c.ending.ensures.contains lengths x e)

-- the ends, by what it contains where the region is as long as it may be
pub returns-clause-is : goal.returns-clause-is
returns-clause-is c = λ reach. where_some _ c.normal.result (λ q is.
    let low = limit_low c.args.region in
    let holds = λ (x : ℕ) (h : x ≤ limit_of c.args.region).
    at_some (λ v. Contains v longest x) _ q is
    (c.normal.ensures.contains longest x (c.between.ensures.contains x (omega arith) (omega arith)) (record { low = omega arith; high = omega arith })
    (c.ending.ensures.contains longest x (subst (λ (n : ℕ). x ≤ n) (sym (longest_is c.args.region)) h))) in
    let first = (holds 0 (omega arith)).range.low in
    let last = (holds (limit_of c.args.region) (omega arith)).range.high in
    let zero = c.ending.ensures.there in
    let limit = some_is _ c.normal.result q is (c.normal.ensures.limits c.args.region 0 zero) in
    let tails = (some_is _ c.normal.result q is c.normal.ensures.narrows).2 in
    let high = some_is _ c.normal.result q is (c.normal.ensures.high_bits c.args.region 0 zero) in
    let whole : limit_of c.args.region - 0 ≡ limit_of c.args.region = omega arith in
    (omega arith, omega arith, ap (λ (s : Tails). tail_of s c.args.region) tails ∙ zero, end_bits q.bits (limit_of c.args.region) (limit_power c.args.region) (λ x h. (holds x h).bits) (subst (λ (n : ℕ). KnowsHigh q.bits 0 n) whole high)))
