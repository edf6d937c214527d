use Rattle.std.proofs.Common.{ap, subst}
use Rattle.tracked_state.specs.Along.{unboxed as in_box}
use Rattle.tracked_state.specs.Tracked.{IsTrackedIn, beside, with_copies}
use Rattle.verifier.proofs.Waits.{within_some, below_some}
use Rattle.verifier.proofs.Passing.{ok_more}
use Rattle.verifier.proofs.Deciding.{some_is, none_is, unjumped}
use Rattle.verifier.proofs.walk.record.Goals as goal

pub returns-clause-added : goal.returns-clause-added
returns-clause-added c =
    let is = ap (λ o. with_copies (in_box o) c.args.copies.now) c.in-Some.is in
    ok_more c.add_boxed.result _ _ (λ _ added lengths s within. added lengths s (within_some _ (beside c.in-Some.state.value c.args.copies.now) lengths s is within)) c.add_boxed.ensures.added

pub returns-clause-rule : goal.returns-clause-rule
returns-clause-rule c = λ from w o waits few tracked.
    let is = ap (λ x. with_copies (in_box x) c.args.copies.now) c.in-Some.is in
    let (s, same, one) = some_is (beside c.in-Some.state.value c.args.copies.now) o (subst (λ x. IsTrackedIn x o) is tracked) in
    rw same (c.add_boxed.ensures.rule from w s waits few one)

pub returns-in_default-clause-rule : goal.returns-in_default-clause-rule
returns-in_default-clause-rule c = λ from w o waits few tracked.
    let is = ap (λ x. with_copies (in_box x) c.args.copies.now) c.in_default.is in
    unjumped c.args.profile c.args.waiting.now c.args.target from o w (none_is o (subst (λ x. IsTrackedIn x o) is tracked)) waits

pub returns-clause-below : goal.returns-clause-below
returns-clause-below c = λ profile below marks.
    let is = ap (λ o. with_copies (in_box o) c.args.copies.now) c.in-Some.is in
    c.add_boxed.ensures.below profile below (below_some profile c.args.target _ (beside c.in-Some.state.value c.args.copies.now) is marks)

pub returns-clause-arises : goal.returns-clause-arises
returns-clause-arises c = λ profile program all target arises.
    let is = ap (λ o. with_copies (in_box o) c.args.copies.now) c.in-Some.is in
    c.add_boxed.ensures.arises profile program all target (arises (beside c.in-Some.state.value c.args.copies.now) is)
