use Rattle.std.proofs.Common.{◌≡◌, ◌<◌, ◌≤◌, ◌≢◌, ℕ, subst, sym, arith}
use Rattle.abstract_state.specs.Quantity.{Contains}
use Rattle.abstract_state.specs.Relation.{Stands, WithinBoth}
use Rattle.abstract_state.specs.declared.relation.Relation.{Relation}
use Rattle.abstract_state.proofs.relation.refine.Goals as goal

pub returns-in-Less-clause-contains : goal.returns-in-Less-clause-contains
returns-in-Less-clause-contains c = λ lengths m n a b h.
    let less : m < n = subst (λ (r : Relation). Stands r m n) c.in-Less.is h in c.ordered.ensures.contains lengths m n a b (omega arith)

pub returns-in-AtMost-clause-contains : goal.returns-in-AtMost-clause-contains
returns-in-AtMost-clause-contains c = λ lengths m n a b h.
    let less : m ≤ n = subst (λ (r : Relation). Stands r m n) c.in-AtMost.is h in c.ordered-in-AtMost.ensures.contains lengths m n a b (omega arith)

pub returns-in-Same-clause-contains : goal.returns-in-Same-clause-contains
returns-in-Same-clause-contains c = λ lengths m n a b h.
    let same : m ≡ n = subst (λ (r : Relation). Stands r m n) c.in-Same.is h in
    subst (λ (k : ℕ). WithinBoth c.equal.result lengths m k) same (c.equal.ensures.contains lengths m a (subst (λ (k : ℕ). Contains c.args.y lengths k) (sym same) b))

pub returns-in-Apart-clause-contains : goal.returns-in-Apart-clause-contains
returns-in-Apart-clause-contains c = λ lengths m n a b h.
    let apart : m ≢ n = subst (λ (r : Relation). Stands r m n) c.in-Apart.is h in c.different.ensures.contains lengths m n a b apart

pub returns-in-AtLeast-clause-contains : goal.returns-in-AtLeast-clause-contains
returns-in-AtLeast-clause-contains c = λ lengths m n a b h.
    let less : n ≤ m = subst (λ (r : Relation). Stands r m n) c.in-AtLeast.is h in
    c.turned.ensures.contains lengths n m (c.ordered-in-AtLeast.ensures.contains lengths n m b a (omega arith))

pub returns-in-Greater-clause-contains : goal.returns-in-Greater-clause-contains
returns-in-Greater-clause-contains c = λ lengths m n a b h.
    let less : n < m = subst (λ (r : Relation). Stands r m n) c.in-Greater.is h in
    c.turned-in-Greater.ensures.contains lengths n m (c.ordered-in-Greater.ensures.contains lengths n m b a (omega arith))
