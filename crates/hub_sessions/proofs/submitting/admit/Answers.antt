use Rattle.session_subscribers.proofs.Refusals.{passed_on}
use Rattle.hub_sessions.proofs.submitting.admit.Goals as goal

pub returns-in_err-check_counters-clause-err : goal.returns-in_err-check_counters-clause-err
returns-in_err-check_counters-clause-err g c =
    passed_on c.from_residual.result c.in_err-check_counters.field-0.0 _ c.from_residual.ensures.1
    (c.in_err-check_counters.ensures.err c.args.left)
