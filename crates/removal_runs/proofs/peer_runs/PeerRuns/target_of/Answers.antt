use Rattle.std.proofs.Common.{◌≡◌, ◌+◌, ◌-◌, ◌<◌, ◌≤◌, Some, length, sym, ap, ◌∙◌, subst, refl, arith, ⊎_elim}
use Rattle.std.specs.List.{slice_get, Contains}
use Rattle.std.specs.Option.{IfSome}
use Rattle.std.proofs.lemmas.Bool.{cases_lt}
use Rattle.std.proofs.lemmas.Option.{same_Some, slice_get_read}
use Rattle.removal_runs.specs.Apart.{HaveBegun}
use Rattle.removal_runs.specs.Removals.{PeerRemovals, HasTargets, begin_of_run, target_in}
use Rattle.removal_runs.specs.declared.run.Run.{Run}
use Rattle.removal_runs.proofs.RunLists.{LiesIn, lies_in, in_last}
use Rattle.removal_runs.proofs.peer_runs.PeerRuns.target_of.Goals as goal

pub returns-then-begun-eq0-clause-only : goal.returns-then-begun-eq0-clause-only
returns-then-begun-eq0-clause-only c =
    λ x has.
    let runs = c.self.inside.runs.items in
    let begun = c.begun_by-begun.result in
    let begins : HaveBegun begin_of_run runs c.args.counter begun = subst (λ z. HaveBegun begin_of_run z c.args.counter begun) c.deref.ensures.value c.begun_by-begun.ensures in
    let lies : LiesIn runs c.args.counter begun x = lies_in runs c.args.counter begun x c.self.invariant begins (subst (λ (v : PeerRemovals). Contains v.removals (record { counter = c.args.counter; target = x })) (sym c.self.view_is) has) in
    absurd (omega (arith, lies.some, c.if-begun-eq0.true))

pub target_of-requires-clause-from : goal.target_of-requires-clause-from
target_of-requires-clause-from c =
    let runs = c.self.inside.runs.items in
    let begun = c.begun_by-begun.result in
    let begins : HaveBegun begin_of_run runs c.args.counter begun = subst (λ z. HaveBegun begin_of_run z c.args.counter begun) c.deref.ensures.value c.begun_by-begun.ensures in
    let less : begun - 1 < length runs = omega (arith, begins.within, c.if-begun-eq0.false) in
    begins.first (begun - 1) c.index.result.now (omega (arith, c.if-begun-eq0.false)) (slice_get_read runs (length runs) (begun - 1) c.index.result.now refl less c.index.ensures)

pub target_of-requires-clause-targets : goal.target_of-requires-clause-targets
target_of-requires-clause-targets c =
    let runs = c.self.inside.runs.items in
    let begun = c.begun_by-begun.result in
    let begins : HaveBegun begin_of_run runs c.args.counter begun = subst (λ z. HaveBegun begin_of_run z c.args.counter begun) c.deref.ensures.value c.begun_by-begun.ensures in
    let less : begun - 1 < length runs = omega (arith, begins.within, c.if-begun-eq0.false) in
    subst HasTargets (sym c.index.ensures) (c.self.invariant.targets (begun - 1) c.index.result.now less)

pub returns-clause-found : goal.returns-clause-found
returns-clause-found c =
    let runs = c.self.inside.runs.items in
    let run = c.index.result.now in
    let begun = c.begun_by-begun.result in
    let begins : HaveBegun begin_of_run runs c.args.counter begun = subst (λ z. HaveBegun begin_of_run z c.args.counter begun) c.deref.ensures.value c.begun_by-begun.ensures in
    let less : begun - 1 < length runs = omega (arith, begins.within, c.if-begun-eq0.false) in
    let at : slice_get runs (begun - 1) ≡ Some run = slice_get_read runs (length runs) (begun - 1) run refl less c.index.ensures in
    let from : run.counter ≤ c.args.counter = begins.first (begun - 1) run (omega (arith, c.if-begun-eq0.false)) at in
    ⊎_elim
    (λ (to : c.args.counter < run.counter + run.length).
    subst (λ z. IfSome z (λ x. Contains c.args.self.now.removals (record { counter = c.args.counter; target = x }))) (sym (c.target_of.ensures.within to))
    (subst (λ (v : PeerRemovals). Contains v.removals (record { counter = c.args.counter; target = target_in run (c.args.counter - run.counter) })) c.self.view_is
    (in_last runs c.args.counter (begun - 1) run at from to)))
    (λ (past : run.counter + run.length ≤ c.args.counter).
    subst (λ z. IfSome z (λ x. Contains c.args.self.now.removals (record { counter = c.args.counter; target = x }))) (sym (c.target_of.ensures.past past)) tt)
    (cases_lt c.args.counter (run.counter + run.length))

pub returns-clause-only : goal.returns-clause-only
returns-clause-only c =
    λ x has.
    let runs = c.self.inside.runs.items in
    let run = c.index.result.now in
    let begun = c.begun_by-begun.result in
    let begins : HaveBegun begin_of_run runs c.args.counter begun = subst (λ z. HaveBegun begin_of_run z c.args.counter begun) c.deref.ensures.value c.begun_by-begun.ensures in
    let less : begun - 1 < length runs = omega (arith, begins.within, c.if-begun-eq0.false) in
    let at : slice_get runs (begun - 1) ≡ Some run = slice_get_read runs (length runs) (begun - 1) run refl less c.index.ensures in
    let lies : LiesIn runs c.args.counter begun x = lies_in runs c.args.counter begun x c.self.invariant begins (subst (λ (v : PeerRemovals). Contains v.removals (record { counter = c.args.counter; target = x })) (sym c.self.view_is) has) in
    let same : lies.run ≡ run = same_Some lies.run run (sym lies.at ∙ at) in
    let to : c.args.counter < run.counter + run.length = subst (λ (z : Run). c.args.counter < z.counter + z.length) same lies.to in
    let is : target_in run (c.args.counter - run.counter) ≡ x = subst (λ (z : Run). target_in z (c.args.counter - z.counter) ≡ x) same lies.target_is in
    c.target_of.ensures.within to ∙ ap Some is
