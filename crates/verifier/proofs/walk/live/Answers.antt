use Rattle.std.proofs.Common.{◌≡◌, Some, refl, ap, subst}
use Rattle.tracked_state.specs.Tracked.{IsTrackedIn}
use Rattle.tracked_state.specs.Tracking.{after_tracked}
use Rattle.verifier.specs.Arises.{ArisesAt}
use Rattle.verifier.proofs.Waits.{within_some, copy_contains, copy_tracked, copy_arises}
use Rattle.verifier.proofs.walk.live.Goals as goal

pub returns-in_ok-copy-in-Live-clause-tracks : goal.returns-in_ok-copy-in-Live-clause-tracks
returns-in_ok-copy-in-Live-clause-tracks c = λ lengths s within.
    let a = c.args.state.now in
    let copy = c.in_ok-copy-in-Live.ensures in
    let there = within_some (after_tracked c.args.flow a) a lengths s (ap (λ f. after_tracked f a) c.in-Live.is) within in
    (c.in_ok-copy-in-Live.field-0, refl, copy_contains a c.in_ok-copy-in-Live.field-0 lengths s copy.state copy.copies there)

pub returns-in_ok-copy-in-Live-clause-rule : goal.returns-in_ok-copy-in-Live-clause-rule
returns-in_ok-copy-in-Live-clause-rule c = λ o is.
    let a = c.args.state.now in
    let copy = c.in_ok-copy-in-Live.ensures in
    let live : after_tracked c.args.flow a ≡ Some a = ap (λ f. after_tracked f a) c.in-Live.is in
    copy_tracked a c.in_ok-copy-in-Live.field-0 o copy.state copy.copies (subst (λ x. IsTrackedIn x o) live is)

pub returns-in_ok-copy-in-Live-clause-arises : goal.returns-in_ok-copy-in-Live-clause-arises
returns-in_ok-copy-in-Live-clause-arises c = λ profile program slot arises.
    let a = c.args.state.now in
    let live : after_tracked c.args.flow a ≡ Some a = ap (λ f. after_tracked f a) c.in-Live.is in
    copy_arises profile program slot a c.in_ok-copy-in-Live.field-0 c.in_ok-copy-in-Live.ensures.state (subst (λ x. ArisesAt profile program slot x) live arises)
