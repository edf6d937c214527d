use Rattle.std.proofs.Common.{None}
use Rattle.value_marks.specs.Copies.{kept}
use Rattle.tracked_state.specs.Tracked.{beside, marking_in}
use Rattle.tracked_state.proofs.Pairs.{own_marking, unmarked, marks_none}
use Rattle.tracked_state.proofs.join.join_parts.Goals as goal

pub returns-clause-left : goal.returns-clause-left
returns-clause-left c = λ lengths s held. record {
  state = c.join.ensures.left lengths s held.state;
  copies = c.join-2.ensures.left s held.copies;
}

pub returns-clause-untracked : goal.returns-clause-untracked
returns-clause-untracked c = λ none.
    unmarked (kept c.join-2.new.self)
    (c.join-2.ensures.rule None (marking_in (beside c.args.other.now c.args.others.now)) (marks_none (kept c.args.copies.now) none) (own_marking (kept c.args.others.now)))
