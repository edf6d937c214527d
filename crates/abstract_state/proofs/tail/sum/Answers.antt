use Rattle.std.proofs.Common.{◌≡◌, ◌+◌, ℕ, Option, Some, None, subst, sym, arith, rules}
use Rattle.std.specs.Option.{option_or}
use Rattle.abstract_state.specs.Lent.{HasTail}
use Rattle.abstract_state.proofs.tail.sum.Goals as goal

-- what holds of both holds of the first that there is
either : (a b : Option ℕ) (long z : ℕ) → HasTail a long z → HasTail b long z → HasTail (option_or a b) long z
either None b long z h k = k
either (Some t) b long z h k = h

pub returns-then-has_more_rules-clause-contains : goal.returns-then-has_more_rules-clause-contains
returns-then-has_more_rules-clause-contains c = λ long x y a h b k.
    let turned : y + x ≡ x + y = omega arith in
    let others = subst (λ (n : ℕ). HasTail c.after-others.result long n) turned (c.after-others.ensures.contains long y x b h) in
    c.greater.ensures.contains long (x + y) (x + y) (x + y) (c.after-own.ensures.contains long x y a k) others (omega arith) (omega arith)

pub returns-else-has_more_rules-clause-contains : goal.returns-else-has_more_rules-clause-contains
returns-else-has_more_rules-clause-contains c = λ long x y a h b k.
    let turned : y + x ≡ x + y = omega arith in
    let others = subst (λ (n : ℕ). HasTail c.after-others.result long n) turned (c.after-others.ensures.contains long y x b h) in
    let is : c.or.result ≡ option_or c.after-own.result c.after-others.result = search rules in
    subst (λ (o : Option ℕ). HasTail o long (x + y)) (sym is)
    (either c.after-own.result c.after-others.result long (x + y) (c.after-own.ensures.contains long x y a k) others)
