use Rattle.std.proofs.Common.{subst}
use Rattle.abstract_state.specs.declared.known.Known.{Known}
use Rattle.abstract_state.specs.Known.{ContainsKnown}
use Rattle.loop_states.proofs.across.content_tells.Goals as goal

pub returns-in-Number-clause-sound : goal.returns-in-Number-clause-sound
returns-in-Number-clause-sound c = λ lengths origins s n bears held there was agrees.
    c.number_tells.ensures.sound lengths origins s n bears held there (subst (λ (k : Known). ContainsKnown k lengths n) c.in-Number.is was) agrees

pub returns-in-Lent-clause-sound : goal.returns-in-Lent-clause-sound
returns-in-Lent-clause-sound c = λ lengths origins s n bears held there was agrees.
    c.tell_as_number.ensures.sound lengths origins s n bears held there (subst (λ (k : Known). ContainsKnown k lengths n) c.in-Lent.is was) agrees
