use Rattle.value_marks.specs.Copies.{kept}
use Rattle.tracked_state.proofs.Pairs.{nothing_within, within_both, copy_lies_below, tracked_edge}
use Rattle.tracked_state.specs.Tracked.{marking_in}
use Rattle.tracked_state.proofs.Learned.{told_learns}
use Rattle.tracked_state.proofs.state.TrackedState.tell_edge.Goals as goal

pub returns-in_default-clause-sound : goal.returns-in_default-clause-sound
returns-in_default-clause-sound c = λ lengths s bears within. absurd (nothing_within lengths s (c.in_default.ensures.sound lengths s bears within))

pub returns-clause-sound : goal.returns-clause-sound
returns-clause-sound c = λ lengths s bears within.
    within_both c.in-Some.state c.in_ok-copies.copies (kept c.args.self.now.copies) lengths s c.in_ok-copies.ensures bears (c.in-Some.ensures.sound lengths s bears within)

pub returns-clause-below : goal.returns-clause-below
returns-clause-below c = λ m k more below. copy_lies_below m k (kept c.args.self.now.copies) (kept c.in_ok-copies.copies) more c.in_ok-copies.ensures below

pub returns-clause-rule : goal.returns-clause-rule
returns-clause-rule c = λ was is. tracked_edge c.in-Some.state c.in_ok-copies.copies (kept c.args.self.now.copies) _ c.in_ok-copies.ensures (c.in-Some.ensures.rule was is)

pub returns-clause-learns : goal.returns-clause-learns
returns-clause-learns c = told_learns c.args.edge c.in-Some.state c.args.left c.args.right.now (marking_in c.args.self.now) c.in-Some.ensures.rule
