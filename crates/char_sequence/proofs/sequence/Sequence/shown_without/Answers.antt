use Rattle.std.proofs.Common.{MatchOption, subst}
use Rattle.change_ops.specs.declared.id.OpId.{OpId}
use Rattle.removal_runs.specs.Open.{IsOnlyOpen}
use Rattle.char_sequence.specs.Held.{Sequence}
use Rattle.char_sequence.proofs.sequence.Sequence.shown_without.Goals as goal

pub returns : goal.returns
returns c =
    subst (λ (v : Sequence). MatchOption c.shows.result ((x : OpId) → IsOnlyOpen v.removals c.args.removal x → ⊥) (IsOnlyOpen v.removals c.args.removal)) c.self.view_is c.shows.ensures
