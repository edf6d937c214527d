use Rattle.std.proofs.Common.{◌≤◌, rules}
use Rattle.filter_workers.proofs.Turning.{caught_up, caught_short}
use Rattle.filter_workers.proofs.work.catch_up.Goals as goal

pub returns-in_err-_end : goal.returns-in_err-_end
returns-in_err-_end g c =
    let within : c.in-Some.job.number ≤ c.args.last = search rules in
    caught_short g.N.Naming.size c.args.subscriber c.args.last _ c.from_residual.result c.args.share.now c.missing_job.new.share c.answer.new.share c.in-Some.job c.from_residual.ensures.1 c.in-Some.ensures
    within c.in_err-_end.ensures.err

pub returns : goal.returns
returns g c =
    let within : c.in-Some.job.number ≤ c.args.last = search rules in
    caught_up g.N.Naming.size c.args.subscriber c.args.last c.args.share.now c.missing_job.new.share c.answer.new.share c.in-Some.job c.in_ok-_end._end c.in-Some.ensures within
    c.in_ok-_end.ensures.ok
