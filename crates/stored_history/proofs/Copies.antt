-- The one spelling of a change, as what reading a text speaks of.
use Rattle.std.proofs.Common.{◌≡◌, ℕ, List, [], sym, ◌∙◌, subst}
use Rattle.std.proofs.lemmas.List.{append-nil}
use Rattle.change_ops.specs.Changes.{Change}
use Rattle.change_ops.specs.Spelling.{Spells, change_text}
use Rattle.stored_history.specs.Texts.{IsTextOf}

pub spells_all : (text : List ℕ) (change : Change) → IsTextOf text change → Spells text change []
spells_all text change spelled = (spelled.0, spelled.1 ∙ sym (append-nil (change_text change)))

pub copied : (text lent : List ℕ) (change copy : Change) → IsTextOf text change → lent ≡ text → ((other : Change) → IsTextOf lent other → copy ≡ other) → IsTextOf text change × (copy ≡ change)
copied text lent change copy spelled same copies = (spelled, copies change (subst (λ (t : List ℕ). IsTextOf t change) (sym same) spelled))
