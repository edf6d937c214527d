use Rattle.std.proofs.Common.{rules}
use Rattle.version_history.proofs.Safety.{safe_as}
use Rattle.version_history.proofs.published.Published.publish_program.Goals as goal

-- src/published.rt: Published::publish_program
pub invariant_of-result : goal.invariant_of-result
invariant_of-result g c = (search rules, safe_as c.in_ok-at.at.value c.args.program c.in_ok-at.ensures.0.1 c.every_run_ends.ensures)
