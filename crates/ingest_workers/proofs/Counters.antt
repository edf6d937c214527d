-- The greatest counter of the accepted operations, and how a change raises it.
use Rattle.std.proofs.Common.{◌≡◌, ℕ, max, List, [], ◌∷◌, ◌++◌, sym, ap, ◌∙◌}
use Rattle.change_ops.specs.Changes.{Change, operations}
use Rattle.change_history.specs.Accepted.{operations_of}
use Rattle.change_history.proofs.Chronicle.{operations_of-push}
use Rattle.change_counters.specs.Counters.{greatest_counter}
use Rattle.change_counters.proofs.Greatest.{greatest_append}

pub greatest_of_none : (changes : List Change) → changes ≡ [] → 0 ≡ greatest_counter (operations_of changes)
unfolding greatest_counter operations_of
greatest_of_none changes none = ap (λ l. greatest_counter (operations_of l)) (sym none)

pub greatest_of_more : (changes more : List Change) (change : Change) (greatest next : ℕ)
    → more ≡ changes ++ change ∷ [] → greatest ≡ greatest_counter (operations_of changes)
    → next ≡ max greatest (greatest_counter (operations change)) → next ≡ greatest_counter (operations_of more)
greatest_of_more changes more change greatest next is all top =
    top
    ∙ ap (λ n. max n (greatest_counter (operations change))) all
    ∙ sym (greatest_append (operations_of changes) (operations change))
    ∙ ap greatest_counter (sym (operations_of-push changes change))
    ∙ ap (λ l. greatest_counter (operations_of l)) (sym is)
