use Rattle.mark_anchors.proofs.AtAnchor.{rising_from_sort}
use Rattle.mark_anchors.proofs.marks.sorted.Goals as goal

pub returns-clause-rising : goal.returns-clause-rising
returns-clause-rising c =
    rising_from_sort c.args.ids.items c.sort_unstable.new.self.items c.sort_unstable.ensures.permutation c.sort_unstable.ensures.sorted
