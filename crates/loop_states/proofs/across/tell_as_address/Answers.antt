use Rattle.std.proofs.Common.{◌+◌, refl, ◌∙◌, ap, subst, ℕ}
use Rattle.abstract_state.specs.Lent.{base_of}
use Rattle.abstract_state.specs.Estimate.{estimate_of}
use Rattle.abstract_state.specs.Addresses.{ANumber, InRegion}
use Rattle.abstract_state.specs.Situation.{Flows}
use Rattle.value_marks.specs.declared.mark.Mark.{Mark}
use Rattle.value_marks.specs.Mark.{raised_mark}
use Rattle.value_marks.specs.Marking.{marking_of}
use Rattle.value_marks.specs.Telling.{teller}
use Rattle.loop_states.specs.Across.{told_as}
use Rattle.loop_states.proofs.ToldAs.{raised_agrees}
use Rattle.loop_states.proofs.across.tell_as_address.Goals as goal

pub returns-clause-sound : goal.returns-clause-sound
returns-clause-sound c = λ lengths origins s n bears held there was agrees.
    let base = base_of c.args.region in
    c.tell_as.ensures.sound lengths origins s n bears held there was
    (base + n, (n, refl, was), raised_agrees origins c.args.mark c.raised.result base c.base.result n c.raised.ensures c.base.ensures agrees)

pub returns-clause-rule : goal.returns-clause-rule
returns-clause-rule c = λ was is.
    let a = estimate_of c.args.number in
    subst (λ (k : Mark). Flows (told_as (teller c.args.register k (InRegion c.args.region a)) (ANumber a) (marking_of c.args.marks.now) was) c.tell_as.result c.tell_as.new.state)
    (c.raised.ensures ∙ ap (λ (b : ℕ). raised_mark b c.args.mark) c.base.ensures) (c.tell_as.ensures.rule was is)
