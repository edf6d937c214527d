use Rattle.std.proofs.Common.{ap}
use Rattle.feeds.specs.Batches.{Job}
use Rattle.filter_workers.proofs.Turning.{served, reissued}
use Rattle.filter_workers.proofs.work.serve.Goals as goal

pub returns-in-Ok : goal.returns-in-Ok
returns-in-Ok g c =
    served g.N.Naming.size c.args.share.now c.answer.new.share c.pump.new.share c.args.job.now c.in-Ok.end _ c.pump.result (ap (λ (j : Job). j.subscriber) c.job.view_is) c.in-Ok.ensures.ok
    c.pump.ensures

pub returns-in-Err : goal.returns-in-Err
returns-in-Err g c =
    reissued g.N.Naming.size c.args.share.now c.answer.new.share c.reissue.new.share c.args.job.now _ c.reissue.result (ap (λ (j : Job). j.subscriber) c.job.view_is) c.in-Err.ensures.err
    c.reissue.ensures
