use Rattle.feeds.proofs.Reuse.{stretch_again}
use Rattle.feeds.proofs.stretch.Stretch.between.Goals as goal

pub invariant_of-result : goal.invariant_of-result
invariant_of-result g c =
    stretch_again c.args.older.now c.args.newer.now c.again.result c.again-2.result c.known_alike-alike.result.front c.known_alike-alike.result.behind
    c.again.ensures c.again-2.ensures c.known_alike-alike.ensures
