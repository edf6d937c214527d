use Rattle.std.proofs.Common.{◌<◌, length, sym, subst, rules}
use Rattle.tracked_state.specs.Tracked.{WithinTracked, IsTrackedIn}
use Rattle.verifier.specs.Waiting.{waiting_at}
use Rattle.verifier.proofs.Waits.{keeps_added, added_there}
use Rattle.verifier.proofs.waiting.Waiting.add_boxed.Goals as goal
use Rattle.verifier.specs.Arises.{AllArise}
use Rattle.verifier.specs.Decided.{WaitsFrom}
use Rattle.verifier.proofs.Waits.{read_waiting, read_below, below_added}
use Rattle.verifier.specs.Waiting.{WaitBelow}
use Rattle.verifier.proofs.Deciding.{waits_added}
use Rattle.verifier.proofs.Arising.{arise_added, read_arises}

pub returns-clause-kept : goal.returns-clause-kept
returns-clause-kept c = λ slot lengths s waits.
    let within : c.args.slot < length c.self.inside.states.items = search rules in
    keeps_added c.self.inside.states.items c.args.slot c.index_mut.result.now c.take.result c.take.new.self c.in_ok-joined.joined within c.index_mut.ensures.value c.take.ensures.value (λ l t. c.in_ok-joined.ensures.kept l t) slot lengths s
    (subst (λ v. WithinTracked (waiting_at v slot) lengths s) (sym c.self.view_is) waits)

pub returns-clause-added : goal.returns-clause-added
returns-clause-added c = λ lengths s contains.
    let within : c.args.slot < length c.self.inside.states.items = search rules in
    added_there c.self.inside.states.items c.args.slot c.take.new.self c.in_ok-joined.joined lengths s within (c.in_ok-joined.ensures.added lengths s contains)

pub returns-clause-arises : goal.returns-clause-arises
returns-clause-arises c = λ profile program all target arises.
    let within : c.args.slot < length c.self.inside.states.items = search rules in
    let every = subst (λ v. AllArise profile program v) (sym c.self.view_is) all in
    arise_added profile program c.self.inside.states.items c.args.slot c.take.new.self c.in_ok-joined.joined within every target
    (c.in_ok-joined.ensures.arises profile program c.args.slot target (λ a e. (read_arises profile program c.self.inside.states.items c.args.slot c.index_mut.result.now c.take.result a within c.index_mut.ensures.value c.take.ensures.value every e).1) arises)

pub returns-clause-rule : goal.returns-clause-rule
returns-clause-rule c = λ from w s waits few is.
    let within : c.args.slot < length c.self.inside.states.items = search rules in
    let every = subst (λ v. WaitsFrom from v w) (sym c.self.view_is) waits in
    let there = subst (λ o. IsTrackedIn o (w c.args.slot)) (read_waiting c.self.inside.states.items c.args.slot c.index_mut.result.now c.take.result within c.index_mut.ensures.value c.take.ensures.value) (every c.args.slot few) in
    waits_added c.args.profile c.self.inside.states.items c.args.slot from c.take.new.self c.in_ok-joined.joined s w within every (c.in_ok-joined.ensures.rule (w c.args.slot) s there is)

pub returns-clause-below : goal.returns-clause-below
returns-clause-below c = λ profile below marks.
    let within : c.args.slot < length c.self.inside.states.items = search rules in
    let every = subst (λ v. WaitBelow profile v) (sym c.self.view_is) below in
    let there = read_below profile c.self.inside.states.items c.args.slot c.index_mut.result.now c.take.result within c.index_mut.ensures.value c.take.ensures.value every in
    below_added profile c.self.inside.states.items c.args.slot c.take.new.self c.in_ok-joined.joined within every (c.in_ok-joined.ensures.below profile c.args.slot there marks)
