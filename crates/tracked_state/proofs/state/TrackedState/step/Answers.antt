use Rattle.std.proofs.Common.{None}
use Rattle.value_marks.specs.Copies.{kept}
use Rattle.tracked_state.proofs.Pairs.{steps_tracked, unmarked, marks_none}
use Rattle.tracked_state.proofs.state.TrackedState.step.Goals as goal

pub returns-clause-sound : goal.returns-clause-sound
returns-clause-sound c = λ below.
    steps_tracked c.args.profile c.args.self.now c.args.insn.now c.step.result c.step.new.self c.follow.new.self
    (λ span s next far held bears ran. c.follow.ensures.sound span s next far held below bears ran) c.step.ensures.sound

pub returns-clause-untracked : goal.returns-clause-untracked
returns-clause-untracked c = λ none. unmarked (kept c.follow.new.self) (c.follow.ensures.rule None (marks_none (kept c.args.self.now.copies) none))
