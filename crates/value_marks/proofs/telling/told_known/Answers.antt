use Rattle.std.proofs.Common.{refl, subst, rules, arith}
use Rattle.std.proofs.lemmas.Grind.{common_steps}
use Rattle.abstract_state.specs.declared.known.Known.{Known}
use Rattle.abstract_state.specs.Known.{ContainsKnown}
use Rattle.value_marks.specs.Telling.{told_content}
use Rattle.value_marks.proofs.telling.told_known.Goals as goal

pub returns-in-Number-Number-clause-sound : goal.returns-in-Number-Number-clause-sound
returns-in-Number-Number-clause-sound c = λ lengths m n a b e.
    c.number.ensures.contains lengths n
    (c.told.ensures.sound lengths m n (subst (λ (v : Known). ContainsKnown v lengths m) c.in-Number-Number.is-0 a) (subst (λ (v : Known). ContainsKnown v lengths n) c.in-Number-Number.is-1 b) e)

pub returns-in-Lent-Lent-clause-sound : goal.returns-in-Lent-Lent-clause-sound
returns-in-Lent-Lent-clause-sound c = λ lengths m n a b e.
    c.told_address.ensures.sound lengths m n (subst (λ (v : Known). ContainsKnown v lengths m) c.in-Lent-Lent.is-0 a) (subst (λ (v : Known). ContainsKnown v lengths n) c.in-Lent-Lent.is-1 b) e

pub returns-in_default : goal.returns-in_default
unfolding told_content
returns-in_default c = record { sound = λ lengths m n a b e. (_, refl, b); rule = first_of (search rules, grind (arith, common_steps)) }

pub returns-in_default-2-clause-sound : goal.returns-in_default-2-clause-sound
returns-in_default-2-clause-sound c = λ lengths m n a b e. (_, refl, b)

pub returns-in_default-3 : goal.returns-in_default-3
unfolding told_content
returns-in_default-3 c = record { sound = λ lengths m n a b e. (_, refl, b); rule = first_of (search rules, grind (arith, common_steps)) }

pub returns-in_default-4-clause-sound : goal.returns-in_default-4-clause-sound
returns-in_default-4-clause-sound c = λ lengths m n a b e. (_, refl, b)
