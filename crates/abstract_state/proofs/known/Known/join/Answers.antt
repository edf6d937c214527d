use Rattle.std.proofs.Common.{◌≡◌, ◌∙◌, refl, sym, ap, subst}
use Rattle.abstract_state.specs.declared.address.LentAddress.{LentAddress}
use Rattle.abstract_state.specs.declared.quantity.Quantity.{Quantity}
use Rattle.abstract_state.specs.Quantity.{JoinsNumber}
use Rattle.abstract_state.specs.declared.known.Known.TheVariants.{Number, Lent}
use Rattle.abstract_state.specs.Known.{ContainsKnown}
use Rattle.abstract_state.specs.declared.known.Known.{Known}
use Rattle.abstract_state.proofs.known.Known.join.Goals as goal

pub returns-in-Number-Number-clause-left : goal.returns-in-Number-Number-clause-left
returns-in-Number-Number-clause-left c = λ lengths x a.
    c.join.ensures.left lengths x (subst (λ (k : Known). ContainsKnown k lengths x) c.in-Number-Number.is-0 a)

pub returns-in-Number-Number-clause-right : goal.returns-in-Number-Number-clause-right
returns-in-Number-Number-clause-right c = λ lengths x b.
    c.join.ensures.right lengths x (subst (λ (k : Known). ContainsKnown k lengths x) c.in-Number-Number.is-1 b)

number_is : (a p : Quantity) (k : Known) → k ≡ Number a → k ≡ Number p → a ≡ p
number_is a p k e f = cc

pub returns-in-Number-Number-clause-values : goal.returns-in-Number-Number-clause-values
returns-in-Number-Number-clause-values c = λ p q e f.
    let left : c.in-Number-Number.a ≡ p = number_is _ _ _ c.in-Number-Number.is-0 e in
    let right : c.in-Number-Number.b ≡ q = number_is _ _ _ c.in-Number-Number.is-1 f in
    (_, refl, subst (λ (v : Quantity). JoinsNumber v q c.join.result) left (subst (λ (v : Quantity). JoinsNumber c.in-Number-Number.a v c.join.result) right c.join.ensures.joins))

lent_is : (a p : LentAddress) (k : Known) → k ≡ Lent a → k ≡ Lent p → a ≡ p
lent_is a p k e f = cc

pub returns-in-Lent-Lent-clause-lent : goal.returns-in-Lent-Lent-clause-lent
returns-in-Lent-Lent-clause-lent c = λ p q e f same.
    let left : c.in-Lent-Lent.a ≡ p = lent_is _ _ _ c.in-Lent-Lent.is-0 e in
    let right : c.in-Lent-Lent.b ≡ q = lent_is _ _ _ c.in-Lent-Lent.is-1 f in
    let given = c.join_lent.ensures.joins (ap (λ (v : LentAddress). v.region) left ∙ same ∙ sym (ap (λ (v : LentAddress). v.region) right)) in (
      given.0,
      given.1,
      given.2 ∙ ap (λ (v : LentAddress). v.region) left,
      subst (λ (v : LentAddress). JoinsNumber v.offset q.offset given.0.offset) left
          (subst (λ (v : LentAddress). JoinsNumber c.in-Lent-Lent.a.offset v.offset given.0.offset) right given.3),
    )
