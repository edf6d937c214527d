use Rattle.std.proofs.Common.{refl}
use Rattle.abstract_state.specs.declared.region.Region.TheVariants.{Text, Link}
use Rattle.abstract_state.specs.Estimate.{estimate_of}
use Rattle.abstract_state.proofs.Registers.{state_at}
use Rattle.value_marks.specs.Marking.{marking_of}
use Rattle.value_marks.proofs.Hearing.{then_live, then_dead}
use Rattle.loop_states.specs.Across.{tells_as_address, tells_addresses}
use Rattle.loop_states.proofs.across.tell_addresses.Goals as goal

pub returns-in-Live-clause-sound : goal.returns-in-Live-clause-sound
returns-in-Live-clause-sound c = λ lengths origins s n bears held there was agrees.
    c.tell_as_address-in-Live.ensures.sound lengths origins s n bears
    (state_at _ _ lengths s refl (c.in-Live.ensures.sound lengths origins s n bears held there was agrees)) there was agrees

pub returns-in-Live-clause-rule : goal.returns-in-Live-clause-rule
unfolding tells_addresses
returns-in-Live-clause-rule c = λ was is.
    then_live (tells_as_address c.args.register c.args.mark (estimate_of c.args.number) Text (marking_of c.args.marks.now) was)
    (tells_as_address c.args.register c.args.mark (estimate_of c.args.number) Link (marking_of c.args.marks.now)) _ _ _ (c.in-Live.ensures.rule was is) c.tell_as_address-in-Live.ensures.rule

pub returns-in-Dead-clause-rule : goal.returns-in-Dead-clause-rule
unfolding tells_addresses
returns-in-Dead-clause-rule c = λ was is.
    then_dead (tells_as_address c.args.register c.args.mark (estimate_of c.args.number) Text (marking_of c.args.marks.now) was)
    (tells_as_address c.args.register c.args.mark (estimate_of c.args.number) Link (marking_of c.args.marks.now)) _ _ (c.in-Dead.ensures.rule was is)
