use Rattle.bpf_words.specs.Words.{program_of}
use Rattle.tracked_state.specs.Tracking.{after_tracked}
use Rattle.verifier.proofs.Reaching.{all_joined, tracked_runs}
use Rattle.verifier.specs.Awaited.{awaited_at}
use Rattle.verifier.proofs.Decided.{known_is, le_self}
use Rattle.verifier.proofs.walk.walk_before.Goals as goal

pub returns-in-Live-clause-tracks : goal.returns-in-Live-clause-tracks
returns-in-Live-clause-tracks c =
    all_joined c.args.profile (program_of c.args.words.now) c.args.slot (after_tracked c.in_ok-flow.field-0.flow c.in_ok-flow.field-0.state) _ c.in_ok-flow.field-0.waiting c.requires.structured
    c.in-Live.ensures.falls c.in-Live.ensures.arrives c.in_ok-flow.ensures.covers

pub returns-in-Live-clause-contains : goal.returns-in-Live-clause-contains
returns-in-Live-clause-contains c =
    tracked_runs c.args.profile (program_of c.args.words.now) c.args.slot _
    (all_joined c.args.profile (program_of c.args.words.now) c.args.slot (after_tracked c.in_ok-flow.field-0.flow c.in_ok-flow.field-0.state) _ c.in_ok-flow.field-0.waiting c.requires.structured
    c.in-Live.ensures.falls c.in-Live.ensures.arrives c.in_ok-flow.ensures.covers)

pub returns-in-Dead-clause-tracks : goal.returns-in-Dead-clause-tracks
returns-in-Dead-clause-tracks c =
    all_joined c.args.profile (program_of c.args.words.now) c.args.slot (after_tracked c.in_ok-flow.field-0.flow c.in_ok-flow.field-0.state) _ c.in_ok-flow.field-0.waiting c.requires.structured
    c.in-Dead.ensures.falls c.in-Dead.ensures.arrives c.in_ok-flow.ensures.covers

pub returns-in-Dead-clause-contains : goal.returns-in-Dead-clause-contains
returns-in-Dead-clause-contains c =
    tracked_runs c.args.profile (program_of c.args.words.now) c.args.slot _
    (all_joined c.args.profile (program_of c.args.words.now) c.args.slot (after_tracked c.in_ok-flow.field-0.flow c.in_ok-flow.field-0.state) _ c.in_ok-flow.field-0.waiting c.requires.structured
    c.in-Dead.ensures.falls c.in-Dead.ensures.arrives c.in_ok-flow.ensures.covers)

pub returns-in-Live-clause-rule : goal.returns-in-Live-clause-rule
returns-in-Live-clause-rule c =
    let a = awaited_at c.args.profile (program_of c.args.words.now) c.args.slot in
    let awaits = c.in_ok-flow.ensures.awaits in
    known_is c.args.profile (program_of c.args.words.now) c.args.slot _ (c.in-Live.ensures.rule a.falling (a.waiting c.args.slot) awaits.falls (awaits.waits c.args.slot (le_self c.args.slot)))

pub returns-in-Dead-clause-rule : goal.returns-in-Dead-clause-rule
returns-in-Dead-clause-rule c =
    let a = awaited_at c.args.profile (program_of c.args.words.now) c.args.slot in
    let awaits = c.in_ok-flow.ensures.awaits in
    known_is c.args.profile (program_of c.args.words.now) c.args.slot _ (c.in-Dead.ensures.rule a.falling (a.waiting c.args.slot) awaits.falls (awaits.waits c.args.slot (le_self c.args.slot)))
