use Rattle.std.proofs.Common.{None, [], ◌∷◌, refl}
use Rattle.filter_workers.specs.Turns.{takes}
use Rattle.filter_workers.proofs.Turning.{took_none, turned, turned_short, turns_short}
use Rattle.filter_workers.proofs.work.turn.Goals as goal

pub returns-in_default : goal.returns-in_default
returns-in_default g c = (takes None ∷ [], took_none g.N.Naming.size c.args.share.now c.take_job.new.share c.in_default.ensures, refl)

pub returns-in_err-served : goal.returns-in_err-served
returns-in_err-served g c =
    let did = turned_short g.N.Naming.size c.args.share.now c.take_job.new.share c.serve-served.new.share c.in-Some.job c.in-Some.ensures c.in_err-served.ensures in
    (did.0, did.1, turns_short _ c.from_residual.result did.0 c.from_residual.ensures.1 c.in-Some.job did.2)

pub returns : goal.returns
returns g c =
    let did = turned g.N.Naming.size c.args.share.now c.take_job.new.share c.serve-served.new.share c.in-Some.job c.in_ok-served.field-0 c.in-Some.ensures c.in_ok-served.ensures in
    (did.0, did.1, (did.2.0, did.2.2, did.2.3))
