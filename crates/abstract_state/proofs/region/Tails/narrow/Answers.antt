use Rattle.std.proofs.Common.{◌≡◌, ◌≤◌, ◌+◌, ℕ, Some, arith}
use Rattle.std.specs.Option.{IfSome}
use Rattle.intervals.specs.declared.Range.{Range}
use Rattle.abstract_state.specs.declared.region.Region.{Region}
use Rattle.abstract_state.specs.Lent.{InRange, tail_of, limit_of}
use Rattle.abstract_state.proofs.Options.{at_some, at_none, some_is, where_some}
use Rattle.abstract_state.proofs.Regions.{each}
use Rattle.abstract_state.proofs.region.Tails.narrow.Goals as goal

pub returns-in_err-by_text-clause-contains : goal.returns-in_err-by_text-clause-contains
returns-in_err-by_text-clause-contains c = λ lengths x r t.
    absurd (at_none (λ (q : Range). InRange q x) _ c.in_err-by_text.was (c.narrow.ensures.contains lengths.text x (let h = lengths.short in let e = c.limit.ensures in omega arith) r t.text))

pub returns-clause-contains : goal.returns-clause-contains
returns-clause-contains c = λ lengths x r t.
    c.narrow-2.ensures.contains lengths.link x (let h = lengths.link_short in let e = c.limit-2.ensures in omega arith)
    (at_some (λ (q : Range). InRange q x) _ _ c.in_ok-by_text.was (c.narrow.ensures.contains lengths.text x (let h = lengths.short in let e = c.limit.ensures in omega arith) r t.text)) t.link

pub returns-clause-limits : goal.returns-clause-limits
returns-clause-limits c = each
    (λ (r : Region). (t : ℕ) → tail_of c.args.self r ≡ Some t → IfSome c.narrow-2.result (λ (q : Range). q.high + t ≤ limit_of r))
    (λ t is. where_some (λ (q : Range). q.high + t ≤ 131072) c.narrow-2.result (λ q there.
    let first = some_is (λ (b : Range). b.high + t ≤ c.limit.result) _ _ c.in_ok-by_text.was (c.narrow.ensures.limits t is) in
    let within = (some_is _ c.narrow-2.result q there c.narrow-2.ensures.within).1 in
    let e = c.limit.ensures in omega arith))
    (λ t is. where_some (λ (q : Range). q.high + t ≤ 1024) c.narrow-2.result (λ q there.
    let last = some_is (λ (b : Range). b.high + t ≤ c.limit-2.result) _ q there (c.narrow-2.ensures.limits t is) in
    let e = c.limit-2.ensures in omega arith))
