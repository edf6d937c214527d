use Rattle.std.proofs.Common.{refl, sym, subst}
use Rattle.std.specs.Prelude.{IfOk}
use Rattle.hub_sessions.specs.Submitting.{IsInReach}
use Rattle.hub_sessions.proofs.Admitting.{at_options}
use Rattle.hub_sessions.proofs.submitting.check_counters.Goals as goal

pub returns-in-None-clause-ok : goal.returns-in-None-clause-ok
returns-in-None-clause-ok g c =
    subst (λ jump. IsInReach g.N.Naming.size c.args.share.now c.args.share.now jump c.args.change.now) (sym c.in-None.is) refl

pub returns-in-Some-clause-ok : goal.returns-in-Some-clause-ok
returns-in-Some-clause-ok g c =
    subst (λ jump. IfOk c.check_jump.result (λ _. IsInReach g.N.Naming.size c.args.share.now c.check_jump.new.share jump c.args.change.now)) (sym c.in-Some.is)
    c.check_jump.ensures.ok

pub returns-in-Some-clause-err : goal.returns-in-Some-clause-err
returns-in-Some-clause-err g c =
    at_options g.N.Naming.size c.args.share.now c.check_jump.new.share c.args.hub.now.options c.in-Some.jump c.args.change.now c.check_jump.result c.in-Some.is c.check_jump.ensures.err
