use Rattle.char_sequence.proofs.Steps.{lost, not_true}
use Rattle.char_sequence.proofs.sequence.lacks_character.Goals as goal

pub returns-then-not-is_there-clause-yes : goal.returns-then-not-is_there-clause-yes
returns-then-not-is_there-clause-yes c =
    λ ops text t. lost ops _ _ c.named-first.result.first text c.named-first.ensures.first (c.is_there.ensures.no c.if-not-is_there.true)

pub returns-else-not-is_there-clause-yes : goal.returns-else-not-is_there-clause-yes
returns-else-not-is_there-clause-yes c =
    λ ops text t.
    lost ops _ _ c.named-first.result.second text c.named-first.ensures.second (c.is_there-else-not-is_there.ensures.no (not_true _ t))
