use Rattle.std.proofs.Common.{◌≡◌, IfOk, subst, rules}
use Rattle.semantics.specs.State.{State}
use Rattle.abstract_state.specs.declared.state.AbsState.{AbsState}
use Rattle.abstract_state.specs.Lent.{Lengths}
use Rattle.tracked_state.specs.Tracked.{ContainsTracked, WithinTracked, beside}
use Rattle.verifier.specs.Waiting.{waiting_at}
use Rattle.verifier.proofs.waiting.Waiting.add.Goals as goal

pub returns-clause-added : goal.returns-clause-added
returns-clause-added c =
    let same : c.in_ok-state.state.value ≡ c.args.state.now = search rules in
    subst (λ (a : AbsState). IfOk c.add_boxed.result (λ x. (lengths : Lengths) (s : State) → ContainsTracked (beside a c.args.copies.now) lengths s → WithinTracked (waiting_at c.add_boxed.new.self c.args.slot) lengths s)) same c.add_boxed.ensures.added
