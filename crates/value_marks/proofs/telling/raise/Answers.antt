use Rattle.std.proofs.Common.{subst}
use Rattle.abstract_state.specs.declared.known.Known.{Known}
use Rattle.abstract_state.specs.Known.{ContainsKnown}
use Rattle.value_marks.proofs.telling.raise.Goals as goal

pub returns-in-Number-clause-sound : goal.returns-in-Number-clause-sound
returns-in-Number-clause-sound c = λ lengths s n held k.
    c.lengthen.ensures.sound lengths s n held (subst (λ (v : Known). ContainsKnown v lengths n) c.in-Number.is k)

pub returns-in-Lent-clause-sound : goal.returns-in-Lent-clause-sound
returns-in-Lent-clause-sound c = λ lengths s n held k.
    let at = subst (λ (v : Known). ContainsKnown v lengths n) c.in-Lent.is k in
    c.lengthen-in-Lent.ensures.sound lengths s at.0 held at.2
