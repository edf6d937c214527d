use Rattle.std.proofs.Common.{◌≡◌, Option, Some, subst}
use Rattle.abstract_state.specs.declared.quantity.Quantity.{Quantity}
use Rattle.abstract_state.specs.Exact.{IsConstant}
use Rattle.semantics.specs.Value.{cut}
use Rattle.abstract_state.specs.Quantity.{Contains}
use Rattle.abstract_state.proofs.Options.{at_some, at_none}
use Rattle.abstract_state.proofs.Widths.{cut_fits}
use Rattle.abstract_state.proofs.transfer.transfer.Goals as goal

pub returns-in_err-a-clause-contains : goal.returns-in_err-a-clause-contains
returns-in_err-a-clause-contains c = λ lengths x y a b.
    absurd (at_none (λ q. Contains q lengths (cut c.args.width x)) _ c.in_err-a.was (c.cut_to.ensures.contains lengths x a))

pub returns-in_err-b-clause-contains : goal.returns-in_err-b-clause-contains
returns-in_err-b-clause-contains c = λ lengths x y a b.
    absurd (at_none (λ q. Contains q lengths (cut c.args.width y)) _ c.in_err-b.was (c.cut_to-2.ensures.contains lengths y b))

pub returns-clause-contains : goal.returns-clause-contains
returns-clause-contains c = λ lengths x y a b.
    let left = at_some (λ q. Contains q lengths (cut c.args.width x)) _ _ c.in_ok-a.was (c.cut_to.ensures.contains lengths x a) in
    let right = at_some (λ q. Contains q lengths (cut c.args.width y)) _ _ c.in_ok-b.was (c.cut_to-2.ensures.contains lengths y b) in
    c.apply.ensures.contains lengths _ _ left right (cut_fits c.args.width x) (cut_fits c.args.width y)

some_same : (q r : Quantity) (o : Option Quantity) → o ≡ Some q → o ≡ Some r → q ≡ r
some_same q r o e f = cc

pub returns-clause-constants : goal.returns-clause-constants
returns-clause-constants c = λ region wide m n folds a b.
    let left = some_same _ _ _ (c.cut_to.ensures.whole wide) c.in_ok-a.was in
    let right = some_same _ _ _ (c.cut_to-2.ensures.whole wide) c.in_ok-b.was in
    c.apply.ensures.constants region wide m n folds (subst (λ (q : Quantity). IsConstant region q m) left a) (subst (λ (q : Quantity). IsConstant region q n) right b)
