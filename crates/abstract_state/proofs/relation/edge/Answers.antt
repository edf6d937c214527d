use Rattle.std.proofs.Common.{◌≡◌, ◌≤◌, refl, ℕ, subst, arith}
use Rattle.semantics.specs.Value.{cut, holds_of}
use Rattle.abstract_state.proofs.Widths.{cut_same}
use Rattle.abstract_state.proofs.relation.edge.Goals as goal

pub returns-then-x-reach-clause-contains : goal.returns-then-x-reach-clause-contains
returns-then-x-reach-clause-contains c = λ lengths m n a b h. (_, refl, a, b)

pub returns-in_default-clause-contains : goal.returns-in_default-clause-contains
returns-in_default-clause-contains c = λ lengths m n a b h. (_, refl, a, b)

pub returns-clause-contains : goal.returns-clause-contains
returns-clause-contains c = λ lengths m n a b h.
    let mh : m ≤ c.args.x.range.high = a.range.high in
    let nh : n ≤ c.args.y.range.high = b.range.high in
    let mr : m ≤ c.reach-reach.result = omega arith in
    let nr : n ≤ c.reach-reach.result = omega arith in
    let em = cut_same c.args.width m (c.reach-reach.ensures.fits m mr) in
    let en = cut_same c.args.width n (c.reach-reach.ensures.fits n nr) in
    let plain = subst (λ (k : ℕ). holds_of c.args.comparison c.args.width m k ≡ c.args.taken) en (subst (λ (k : ℕ). holds_of c.args.comparison c.args.width k (cut c.args.width n) ≡ c.args.taken) em h) in
    c.refine.ensures.contains lengths m n a b
    (c.in-Some.ensures.stands c.args.width m n (λ signs. (c.reach-reach.ensures.signs m signs mr, c.reach-reach.ensures.signs n signs nr)) plain)
