use Rattle.std.proofs.Common.{arith}
use Rattle.hub_core.proofs.Sizes.{changes_few}
use Rattle.hub_core.proofs.hub.latest.Goals as goal

pub returns-clause-few : goal.returns-clause-few
returns-clause-few c = omega (arith, c.len.ensures.most, changes_few c.args.history.now.size)
