use Rattle.std.proofs.Common.{ℕ, ◌∙◌, ap, subst}
use Rattle.abstract_state.specs.Lent.{base_of}
use Rattle.abstract_state.specs.Estimate.{estimate_of}
use Rattle.abstract_state.specs.Addresses.{ANumber, InRegion}
use Rattle.abstract_state.specs.Situation.{Flows}
use Rattle.value_marks.specs.declared.mark.Mark.{Mark}
use Rattle.value_marks.specs.Mark.{lowered_mark}
use Rattle.value_marks.specs.Marking.{marking_of}
use Rattle.value_marks.specs.Telling.{teller}
use Rattle.loop_states.specs.Across.{told_as}
use Rattle.loop_states.proofs.ToldAs.{lowered_agrees}
use Rattle.loop_states.proofs.across.tell_as_number.Goals as goal

pub returns-clause-sound : goal.returns-clause-sound
returns-clause-sound c = λ lengths origins s n bears held there was agrees.
    let (x, is, inside) = was in
    c.tell_as.ensures.sound lengths origins s n bears held there was
    (x, inside, lowered_agrees origins c.args.mark c.lowered.result (base_of c.args.address.region) c.base.result x n c.lowered.ensures c.base.ensures is agrees)

pub returns-clause-rule : goal.returns-clause-rule
returns-clause-rule c = λ was is.
    let a = estimate_of c.args.address.offset in
    subst (λ (k : Mark). Flows (told_as (teller c.args.register k (ANumber a)) (InRegion c.args.address.region a) (marking_of c.args.marks.now) was) c.tell_as.result c.tell_as.new.state)
    (c.lowered.ensures ∙ ap (λ (b : ℕ). lowered_mark b c.args.mark) c.base.ensures) (c.tell_as.ensures.rule was is)
