use Rattle.std.proofs.Common.{◌≡◌, IsTrue, refl, subst}
use Rattle.abstract_state.specs.State.{lengths_of}
use Rattle.loop_check.specs.Labels.{bound_of}
use Rattle.loop_check.specs.Rules.{lent, loop_rules}
use Rattle.loop_check.specs.Meanings.{meanings}
use Rattle.loop_check.specs.Leads.{with_potential}
use Rattle.loop_check.proofs.Keeping.{begins}
use Rattle.std.proofs.lemmas.Bool.{false≢true}
use Rattle.loop_labels.specs.Potential as law
use Rattle.tracked_state.specs.Tracked.{tracked_of}
use Rattle.loop_states.specs.Within.{IsWithinInLoop}
use Rattle.label_potentials.specs.Views.{potential_of}
use Rattle.loop_check.specs.declared.label.Label.{Label}
use Rattle.loop_check.specs.declared.refusal.Failure.TheVariants.{OutOfMemory}
use Rattle.loop_check.proofs.Among.{same_label}
use Rattle.loop_check.proofs.Completing.{err_is}
use Rattle.loop_check.proofs.check.begin.Goals as goal

pub returns-clause-rule : goal.returns-clause-rule
returns-clause-rule c =
    let first = c.in-Some.first.now in
    begins loop_rules c.args.labels.now (bound_of c.args.bound.now) first
    (with_potential c.in_ok-start.start first.potential) c.in-Some.ensures
    (c.is_bound.ensures.0 c.if-not-is_bound.false) c.in_ok-start.ensures.rule
    (record { states = c.is_within.ensures.rule.0 c.if-not-is_within.false; potentials = refl })

pub returns-clause-sound : goal.returns-clause-sound
returns-clause-sound c =
    let first = c.in-Some.first.now in
    begins meanings c.args.labels.now (bound_of c.args.bound.now) first
    (with_potential c.in_ok-start.start first.potential) c.in-Some.ensures
    (c.is_bound.ensures.0 c.if-not-is_bound.false)
    (λ bytes span whole. c.in_ok-start.ensures.contains (lent bytes whole))
    (λ bytes s held whole.
    c.is_within.ensures.sound c.if-not-is_within.false (lengths_of (lent bytes whole)) s (held whole))

pub returns-in_default-clause-complete : goal.returns-in_default-clause-complete
returns-in_default-clause-complete c = λ begins. absurd (c.in_default.ensures begins.first begins.found)

pub returns-then-not-is_bound-clause-complete : goal.returns-then-not-is_bound-clause-complete
returns-then-not-is_bound-clause-complete c = λ begins.
    let same : begins.first ≡ c.in-Some.first.now
    = same_label c.args.labels.now 0 begins.first c.in-Some.first.now begins.found c.in-Some.ensures in
    absurd (false≢true (subst IsTrue c.if-not-is_bound.true
    (c.is_bound.ensures.1
    (subst (λ (l : Label). potential_of l.potential ≡ law.potential_of (bound_of c.args.bound.now)) same begins.whole))))

pub returns-in_err-start-clause-complete : goal.returns-in_err-start-clause-complete
returns-in_err-start-clause-complete c = λ begins.
    err_is c.from_residual.result (λ e. e ≡ OutOfMemory) c.from_residual.ensures.1

pub returns-then-not-is_within-clause-complete : goal.returns-then-not-is_within-clause-complete
returns-then-not-is_within-clause-complete c = λ begins.
    let same : begins.first ≡ c.in-Some.first.now
    = same_label c.args.labels.now 0 begins.first c.in-Some.first.now begins.found c.in-Some.ensures in
    absurd (false≢true (subst IsTrue c.if-not-is_within.true
    (c.is_within.ensures.rule.1
    (subst (λ (l : Label). IsWithinInLoop (tracked_of c.in_ok-start.start) (tracked_of l.state)) same
    (begins.widens c.in_ok-start.start c.in_ok-start.ensures.rule)))))
