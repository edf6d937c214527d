use Rattle.std.proofs.Common.{◌≡◌, ◌<◌, None, length, refl, sym, ap, ◌∙◌, subst, rules}
use Rattle.tracked_state.specs.Tracked.{ContainsTracked, WithinTracked, IsTracked, IsTrackedIn, beside, tracked_of}
use Rattle.tracked_state.specs.Tracking.{after_tracked}
use Rattle.tracked_state.specs.Rules.{joined as joined_tracked}
use Rattle.verifier.specs.Waiting.{waiting_at}
use Rattle.verifier.proofs.Waits.{within_some, waited}
use Rattle.verifier.proofs.waiting.Waiting.arrive.Goals as goal
use Rattle.verifier.specs.Arises.{Arises, AllArise, joined}
use Rattle.verifier.specs.Waiting.{as_tracked, unboxed}
use Rattle.verifier.proofs.Arising.{arise_taken, read_arises, read_nothing, at_one}
use Rattle.abstract_state.specs.declared.state.AbsState.{AbsState}
use Rattle.verifier.proofs.Waits.{read_waiting, waiting-set_same, read_below, below_taken, below_some}
use Rattle.verifier.specs.Waiting.{WaitBelow}
use Rattle.verifier.proofs.Deciding.{arrives_both, arrives_alone, arrives_none}

pub returns-clause-falls : goal.returns-clause-falls
returns-clause-falls c = λ lengths s falls.
    (beside c.join_parts.new.state c.join_parts.new.copies, refl, c.join_parts.ensures.left lengths s (within_some _ c.args.state.now lengths s (ap (λ f. after_tracked f c.args.state.now) c.in-Live.is) falls))

pub returns-clause-arrives : goal.returns-clause-arrives
returns-clause-arrives c = λ lengths s waits.
    let within : c.args.slot < length c.self.inside.states.items = search rules in
    let found : ContainsTracked (as_tracked c.in-Some.waiting) lengths s =
    waited c.self.inside.states.items c.args.slot c.index_mut.result.now c.take.result c.in-Some.waiting lengths s within c.index_mut.ensures.value c.take.ensures.value c.in-Some.is
    (subst (λ v. WithinTracked (waiting_at v c.args.slot) lengths s) (sym c.self.view_is) waits) in
    (beside c.join_parts.new.state c.join_parts.new.copies, refl, c.join_parts.ensures.right lengths s (subst (λ (a : AbsState). ContainsTracked (beside a c.in-Some.waiting.copies) lengths s) (sym c.deref-2.ensures) found))

pub returns-in_default-flow-clause-arrives : goal.returns-in_default-flow-clause-arrives
returns-in_default-flow-clause-arrives c = λ lengths s waits.
    let within : c.args.slot < length c.self.inside.states.items = search rules in
    let found : ContainsTracked (as_tracked c.in-Some.waiting) lengths s =
    waited c.self.inside.states.items c.args.slot c.index_mut.result.now c.take.result c.in-Some.waiting lengths s within c.index_mut.ensures.value c.take.ensures.value c.in-Some.is
    (subst (λ v. WithinTracked (waiting_at v c.args.slot) lengths s) (sym c.self.view_is) waits) in
    (beside c.deref.result.now c.in-Some.waiting.copies, refl, subst (λ (a : AbsState). ContainsTracked (beside a c.in-Some.waiting.copies) lengths s) (sym c.deref.ensures) found)

pub returns-clause-arises : goal.returns-clause-arises
returns-clause-arises c = λ profile program all falls.
    let within : c.args.slot < length c.self.inside.states.items = search rules in
    let every = subst (λ v. AllArise profile program v) (sym c.self.view_is) all in
    let waits = read_arises profile program c.self.inside.states.items c.args.slot c.index_mut.result.now c.take.result (as_tracked c.in-Some.waiting) within c.index_mut.ensures.value c.take.ensures.value every (ap unboxed c.in-Some.is) in
    let fell = falls c.args.state.now (ap (λ f. after_tracked f c.args.state.now) c.in-Live.is) in (
      arise_taken profile program c.self.inside.states.items c.args.slot c.take.new.self within c.take.ensures.after every,
      at_one profile program c.args.slot (beside c.join_parts.new.state c.join_parts.new.copies) (joined waits.0 fell (subst (λ (a : AbsState). Arises profile program c.args.slot a) (sym c.deref-2.ensures) waits.1) (record { registers = c.join_parts.ensures.kinds; slots = c.join_parts.ensures.slots; bounds = c.join_parts.ensures.bounds })),
    )

pub returns-in_default-flow-clause-arises : goal.returns-in_default-flow-clause-arises
returns-in_default-flow-clause-arises c = λ profile program all falls.
    let within : c.args.slot < length c.self.inside.states.items = search rules in
    let every = subst (λ v. AllArise profile program v) (sym c.self.view_is) all in
    let waits = read_arises profile program c.self.inside.states.items c.args.slot c.index_mut.result.now c.take.result (as_tracked c.in-Some.waiting) within c.index_mut.ensures.value c.take.ensures.value every (ap unboxed c.in-Some.is) in (
      arise_taken profile program c.self.inside.states.items c.args.slot c.take.new.self within c.take.ensures.after every,
      at_one profile program c.args.slot (beside c.deref.result.now c.in-Some.waiting.copies) (subst (λ (a : AbsState). Arises profile program c.args.slot a) (sym c.deref.ensures) waits.1),
    )

pub returns-in_default-clause-arises : goal.returns-in_default-clause-arises
returns-in_default-clause-arises c = λ profile program all falls.
    let within : c.args.slot < length c.self.inside.states.items = search rules in
    let every = subst (λ v. AllArise profile program v) (sym c.self.view_is) all in
    (arise_taken profile program c.self.inside.states.items c.args.slot c.take.new.self within c.take.ensures.after every, falls)

pub returns-clause-alone : goal.returns-clause-alone
returns-clause-alone c = λ none.
    let within : c.args.slot < length c.self.inside.states.items = search rules in
    absurd (read_nothing c.self.inside.states.items c.args.slot c.index_mut.result.now c.take.result c.in-Some.waiting within c.index_mut.ensures.value c.take.ensures.value c.in-Some.is
    (subst (λ v. waiting_at v c.args.slot ≡ None) (sym c.self.view_is) none))

pub returns-in_default-flow-clause-alone : goal.returns-in_default-flow-clause-alone
returns-in_default-flow-clause-alone c = λ none.
    let within : c.args.slot < length c.self.inside.states.items = search rules in
    absurd (read_nothing c.self.inside.states.items c.args.slot c.index_mut.result.now c.take.result c.in-Some.waiting within c.index_mut.ensures.value c.take.ensures.value c.in-Some.is
    (subst (λ v. waiting_at v c.args.slot ≡ None) (sym c.self.view_is) none))

pub returns-clause-waits : goal.returns-clause-waits
returns-clause-waits c = λ profile program all.
    let within : c.args.slot < length c.self.inside.states.items = search rules in
    arise_taken profile program c.self.inside.states.items c.args.slot c.take.new.self within c.take.ensures.after (subst (λ v. AllArise profile program v) (sym c.self.view_is) all)

pub returns-in_default-flow-clause-waits : goal.returns-in_default-flow-clause-waits
returns-in_default-flow-clause-waits c = λ profile program all.
    let within : c.args.slot < length c.self.inside.states.items = search rules in
    arise_taken profile program c.self.inside.states.items c.args.slot c.take.new.self within c.take.ensures.after (subst (λ v. AllArise profile program v) (sym c.self.view_is) all)

pub returns-in_default-clause-waits : goal.returns-in_default-clause-waits
returns-in_default-clause-waits c = λ profile program all.
    let within : c.args.slot < length c.self.inside.states.items = search rules in
    arise_taken profile program c.self.inside.states.items c.args.slot c.take.new.self within c.take.ensures.after (subst (λ v. AllArise profile program v) (sym c.self.view_is) all)

pub returns-clause-rule : goal.returns-clause-rule
returns-clause-rule c = λ falling here falls waits.
    let within : c.args.slot < length c.self.inside.states.items = search rules in
    let every = subst (λ v. IsTrackedIn (waiting_at v c.args.slot) here) (sym c.self.view_is) waits in
    let there = read_waiting c.self.inside.states.items c.args.slot c.index_mut.result.now c.take.result within c.index_mut.ensures.value c.take.ensures.value ∙ ap unboxed c.in-Some.is in
    arrives_both c.args.profile (waiting_at c.self.inside.states.items c.args.slot) (after_tracked c.args.flow c.args.state.now) c.args.state.now (as_tracked c.in-Some.waiting) (beside c.join_parts.new.state c.join_parts.new.copies) falling here there (ap (λ f. after_tracked f c.args.state.now) c.in-Live.is) every falls
    (subst (λ (a : AbsState). IsTracked (beside c.join_parts.new.state c.join_parts.new.copies) (joined_tracked c.args.profile (tracked_of c.args.state.now) (tracked_of (beside a c.in-Some.waiting.copies)))) c.deref-2.ensures c.join_parts.ensures.rule)

pub returns-in_default-flow-clause-rule : goal.returns-in_default-flow-clause-rule
returns-in_default-flow-clause-rule c = λ falling here falls waits.
    let within : c.args.slot < length c.self.inside.states.items = search rules in
    let every = subst (λ v. IsTrackedIn (waiting_at v c.args.slot) here) (sym c.self.view_is) waits in
    let there = read_waiting c.self.inside.states.items c.args.slot c.index_mut.result.now c.take.result within c.index_mut.ensures.value c.take.ensures.value ∙ ap unboxed c.in-Some.is in
    arrives_alone c.args.profile (waiting_at c.self.inside.states.items c.args.slot) (after_tracked c.args.flow c.args.state.now) (as_tracked c.in-Some.waiting) (beside c.deref.result.now c.in-Some.waiting.copies) falling here there (search rules) (ap (λ (a : AbsState). beside a c.in-Some.waiting.copies) c.deref.ensures) every falls

pub returns-in_default-clause-rule : goal.returns-in_default-clause-rule
returns-in_default-clause-rule c = λ falling here falls waits.
    let within : c.args.slot < length c.self.inside.states.items = search rules in
    let every = subst (λ v. IsTrackedIn (waiting_at v c.args.slot) here) (sym c.self.view_is) waits in
    let there = read_waiting c.self.inside.states.items c.args.slot c.index_mut.result.now c.take.result within c.index_mut.ensures.value c.take.ensures.value ∙ ap unboxed c.in_default.is in
    arrives_none c.args.profile (waiting_at c.self.inside.states.items c.args.slot) (after_tracked c.args.flow c.args.state.now) falling here there every falls

pub returns-clause-taken : goal.returns-clause-taken
returns-clause-taken c =
    let within : c.args.slot < length c.self.inside.states.items = search rules in
    waiting-set_same c.self.inside.states.items c.args.slot c.take.new.self within ∙ ap unboxed c.take.ensures.after

pub returns-in_default-flow-clause-taken : goal.returns-in_default-flow-clause-taken
returns-in_default-flow-clause-taken c =
    let within : c.args.slot < length c.self.inside.states.items = search rules in
    waiting-set_same c.self.inside.states.items c.args.slot c.take.new.self within ∙ ap unboxed c.take.ensures.after

pub returns-in_default-clause-taken : goal.returns-in_default-clause-taken
returns-in_default-clause-taken c =
    let within : c.args.slot < length c.self.inside.states.items = search rules in
    waiting-set_same c.self.inside.states.items c.args.slot c.take.new.self within ∙ ap unboxed c.take.ensures.after

pub returns-clause-waits_below : goal.returns-clause-waits_below
returns-clause-waits_below c = λ profile below.
    let within : c.args.slot < length c.self.inside.states.items = search rules in
    below_taken profile c.self.inside.states.items c.args.slot c.take.new.self within c.take.ensures.after (subst (λ v. WaitBelow profile v) (sym c.self.view_is) below)

pub returns-in_default-flow-clause-waits_below : goal.returns-in_default-flow-clause-waits_below
returns-in_default-flow-clause-waits_below c = λ profile below.
    let within : c.args.slot < length c.self.inside.states.items = search rules in
    below_taken profile c.self.inside.states.items c.args.slot c.take.new.self within c.take.ensures.after (subst (λ v. WaitBelow profile v) (sym c.self.view_is) below)

pub returns-in_default-clause-waits_below : goal.returns-in_default-clause-waits_below
returns-in_default-clause-waits_below c = λ profile below.
    let within : c.args.slot < length c.self.inside.states.items = search rules in
    below_taken profile c.self.inside.states.items c.args.slot c.take.new.self within c.take.ensures.after (subst (λ v. WaitBelow profile v) (sym c.self.view_is) below)

pub returns-clause-below : goal.returns-clause-below
returns-clause-below c = λ profile below falls.
    let before = below_some profile c.args.slot _ c.args.state.now (ap (λ f. after_tracked f c.args.state.now) c.in-Live.is) falls in
    record { origins = c.join_parts.ensures.below c.args.slot before.origins; unfollowed = λ few. c.join_parts.ensures.untracked (before.unfollowed few) }

pub returns-in_default-flow-clause-below : goal.returns-in_default-flow-clause-below
returns-in_default-flow-clause-below c = λ profile below falls.
    let within : c.args.slot < length c.self.inside.states.items = search rules in
    let every = subst (λ v. WaitBelow profile v) (sym c.self.view_is) below in
    let there = read_below profile c.self.inside.states.items c.args.slot c.index_mut.result.now c.take.result within c.index_mut.ensures.value c.take.ensures.value every in
    let marks = below_some profile c.args.slot _ (as_tracked c.in-Some.waiting) (ap unboxed c.in-Some.is) there in
    record { origins = marks.origins; unfollowed = marks.unfollowed }
