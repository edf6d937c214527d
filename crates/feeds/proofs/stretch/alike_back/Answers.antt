use Rattle.std.proofs.Common.{◌≤◌, ◌+◌, arith}
use Rattle.feeds.proofs.Walking.{alike_joined}
use Rattle.feeds.proofs.stretch.alike_back.Goals as goal

pub returns-then-alike-count-clause-alike : goal.returns-then-alike-count-clause-alike
returns-then-alike-count-clause-alike c =
    let run = c.alike_up_to_last-alike.ensures in
    let in_older : c.loop-back.back + c.min-count.result ≤ c.args.older_end = omega arith in
    let in_newer : c.loop-back.back + c.min-count.result ≤ c.args.newer_end = omega arith in
    alike_joined c.args.older.now c.args.newer.now c.args.older_end c.args.newer_end c.loop-back.back c.min-count.result c.alike_up_to_last-alike.result
    c.loop-back.invariant.alike run.alike run.few in_older in_newer

pub loop-back-preserved : goal.loop-back-preserved
loop-back-preserved c =
    let run = c.alike_up_to_last-alike.ensures in
    let in_older : c.loop-back.back + c.min-count.result ≤ c.args.older_end = omega arith in
    let in_newer : c.loop-back.back + c.min-count.result ≤ c.args.newer_end = omega arith in
    record {
      few = omega arith;
      alike = alike_joined c.args.older.now c.args.newer.now c.args.older_end c.args.newer_end c.loop-back.back c.min-count.result c.alike_up_to_last-alike.result
          c.loop-back.invariant.alike run.alike run.few in_older in_newer;
    }
