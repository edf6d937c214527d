use Rattle.std.proofs.Common.{option_map, refl}
use Rattle.abstract_state.specs.declared.step.Flow.TheVariants.{Live, Dead}
use Rattle.value_marks.specs.Marking.{marking_of}
use Rattle.value_marks.specs.Copies.{kept}
use Rattle.loop_states.specs.Across.{tell_if_marked}
use Rattle.loop_states.proofs.Landing.{across_live, across_dead, across_is}
use Rattle.loop_states.proofs.across.tell_across.Goals as goal

pub returns-in-Live-clause-sound : goal.returns-in-Live-clause-sound
returns-in-Live-clause-sound c = λ lengths s bears within.
    across_live c.args.edge c.in-Some.state c.tell_if_marked.new.state lengths s c.in-Some.is (c.in-Live.ensures.sound lengths s bears) within

pub returns-in-Live-clause-rule : goal.returns-in-Live-clause-rule
returns-in-Live-clause-rule c = λ was is.
    across_is c.args.edge c.in-Some.state c.tell_if_marked.new.state (tell_if_marked c.args.left c.args.right.now (option_map marking_of (kept c.args.copies.now))) Live _ was c.in-Some.is c.in-Live.ensures.rule refl is

pub returns-in-Dead-clause-sound : goal.returns-in-Dead-clause-sound
returns-in-Dead-clause-sound c = λ lengths s bears within.
    absurd (across_dead c.args.edge c.in-Some.state lengths s c.in-Some.is (c.in-Dead.ensures.sound lengths s bears) within)

pub returns-in-Dead-clause-rule : goal.returns-in-Dead-clause-rule
returns-in-Dead-clause-rule c = λ was is.
    across_is c.args.edge c.in-Some.state c.tell_if_marked.new.state (tell_if_marked c.args.left c.args.right.now (option_map marking_of (kept c.args.copies.now))) Dead _ was c.in-Some.is c.in-Dead.ensures.rule refl is
