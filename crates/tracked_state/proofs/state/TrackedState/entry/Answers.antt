use Rattle.semantics.specs.State.{start}
use Rattle.value_marks.specs.Copies.{kept}
use Rattle.tracked_state.proofs.Pairs.{bears_first}
use Rattle.tracked_state.proofs.state.TrackedState.entry.Goals as goal

pub returns-clause-contains : goal.returns-clause-contains
returns-clause-contains c = λ span. record {
  state = c.entry.ensures.contains span;
  copies = bears_first c.args.profile (kept c.in_ok-copies.copies) start c.in_ok-copies.ensures.rule;
}
