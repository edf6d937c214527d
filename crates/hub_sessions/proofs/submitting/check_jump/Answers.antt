use Rattle.std.proofs.Common.{None, Some, subst, sym}
use Rattle.hub_sessions.specs.Submitting.{LeapsAt}
use Rattle.hub_sessions.proofs.Admitting.{found_jump}
use Rattle.hub_sessions.proofs.submitting.check_jump.Goals as goal

pub returns-in-None-clause-ok : goal.returns-in-None-clause-ok
returns-in-None-clause-ok g c =
    found_jump g.N.Naming.size c.args.share.now c.greatest_counter-greatest.new.share c.args.jump c.greatest_counter-greatest.result c.args.change.now None c.greatest_counter-greatest.ensures
    c.in-None.ensures

pub returns-in-Some-clause-err : goal.returns-in-Some-clause-err
returns-in-Some-clause-err g c =
    λ options left is. subst (λ jump. LeapsAt g.N.Naming.size c.args.share.now c.greatest_counter-greatest.new.share jump c.args.change.now c.in-Some.line) (sym is)
    (found_jump g.N.Naming.size c.args.share.now c.greatest_counter-greatest.new.share c.args.jump c.greatest_counter-greatest.result c.args.change.now (Some c.in-Some.line)
    c.greatest_counter-greatest.ensures c.in-Some.ensures)
