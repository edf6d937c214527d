use Rattle.std.proofs.Common.{◌≡◌, Some, rules}
use Rattle.abstract_state.specs.State.{lengths_of}
use Rattle.loop_states.proofs.Bearing.{bear_boxed}
use Rattle.loop_states.proofs.state.follow_copies.Goals as goal

pub returns-clause-sound : goal.returns-clause-sound
returns-clause-sound c = λ span s next far low third held bears ran.
    let there : c.args.copies.now.marks ≡ Some c.in-Some.marks = search rules in
    let same : c.deref_mut.result.now ≡ c.in-Some.marks.value = search rules in
    c.follow.ensures.sound span s next far low third held (bear_boxed (lengths_of span) c.args.copies.now.marks c.in-Some.marks c.deref_mut.result.now s there same bears) ran
