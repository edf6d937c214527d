use Rattle.std.proofs.Common.{◌≡◌, None, refl, sym, ap, subst}
use Rattle.abstract_state.specs.declared.state.AbsState.{AbsState}
use Rattle.tracked_state.specs.Tracked.{ContainsTracked, IsTracked, beside, tracked_of}
use Rattle.tracked_state.specs.Rules.{joined as joined_tracked}
use Rattle.verifier.specs.Arises.{Arises, joined}
use Rattle.verifier.specs.Waiting.{as_tracked, unboxed}
use Rattle.verifier.proofs.Waits.{within_some, below_some, copy_contains, copy_is, copy_below}
use Rattle.verifier.proofs.Deciding.{first_in, joined_in}
use Rattle.verifier.proofs.waiting.join.Goals as goal

pub returns-clause-kept : goal.returns-clause-kept
returns-clause-kept c = λ lengths s within.
    c.join_parts.ensures.left lengths s
    (subst (λ (a : AbsState). ContainsTracked (beside a c.in-Some.earlier.copies) lengths s) (sym c.deref_mut.ensures.value) (within_some _ (as_tracked c.in-Some.earlier) lengths s (ap unboxed c.in-Some.is) within))

pub returns-clause-added : goal.returns-clause-added
returns-clause-added c = λ lengths s contains.
    c.join_parts.ensures.right lengths s (subst (λ (a : AbsState). ContainsTracked (beside a c.args.copies.now) lengths s) (sym c.deref.ensures) contains)

pub returns-clause-arises : goal.returns-clause-arises
returns-clause-arises c = λ profile program slot target waits arises.
    joined target (subst (λ (a : AbsState). Arises profile program slot a) (sym c.deref_mut.ensures.value) (waits (as_tracked c.in-Some.earlier) (ap unboxed c.in-Some.is)))
    (subst (λ (a : AbsState). Arises profile program slot a) (sym c.deref.ensures) arises)
    (record { registers = c.join_parts.ensures.kinds; slots = c.join_parts.ensures.slots; bounds = c.join_parts.ensures.bounds })

pub returns-in_default-clause-added : goal.returns-in_default-clause-added
returns-in_default-clause-added c = λ lengths s contains.
    copy_contains (beside c.args.state.value c.args.copies.now) (beside c.args.state.value c.in_ok-copies.copies) lengths s refl c.in_ok-copies.ensures contains

pub returns-in_default-clause-rule : goal.returns-in_default-clause-rule
returns-in_default-clause-rule c = λ o s there is.
    let none : unboxed c.args.waiting ≡ None = ap unboxed c.in_default.is in
    let first = beside c.args.state.value c.in_ok-copies.copies in
    first_in c.args.profile (unboxed c.args.waiting) first first o s none refl there (copy_is (beside c.args.state.value c.args.copies.now) first s refl c.in_ok-copies.ensures is)

pub returns-clause-rule : goal.returns-clause-rule
returns-clause-rule c = λ o s there is.
    let now = beside c.args.state.value c.args.copies.now in
    let after = beside c.join_parts.new.state c.join_parts.new.copies in
    let own = subst (λ (a : AbsState). IsTracked after (joined_tracked c.args.profile (tracked_of (beside a c.in-Some.earlier.copies)) (tracked_of (beside c.deref.result.now c.args.copies.now)))) c.deref_mut.ensures.value c.join_parts.ensures.rule in
    let rule = subst (λ (a : AbsState). IsTracked after (joined_tracked c.args.profile (tracked_of (as_tracked c.in-Some.earlier)) (tracked_of (beside a c.args.copies.now)))) c.deref.ensures own in
    joined_in c.args.profile (unboxed c.args.waiting) (as_tracked c.in-Some.earlier) now after o s (ap unboxed c.in-Some.is) there is rule

pub returns-in_default-clause-below : goal.returns-in_default-clause-below
returns-in_default-clause-below c = λ profile k waits marks.
    copy_below profile k (beside c.args.state.value c.args.copies.now) (beside c.args.state.value c.in_ok-copies.copies) c.in_ok-copies.ensures marks

pub returns-clause-below : goal.returns-clause-below
returns-clause-below c = λ profile k waits marks.
    let before = below_some profile k _ (as_tracked c.in-Some.earlier) (ap unboxed c.in-Some.is) waits in
    record { origins = c.join_parts.ensures.below k before.origins; unfollowed = λ few. c.join_parts.ensures.untracked (before.unfollowed few) }
