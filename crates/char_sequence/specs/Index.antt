-- Elements by their ids.
use Rattle.std.specs.Prelude.{ℕ, Bool, List}
use Rattle.std.specs.Ordering.{is_eq}
use Rattle.change_ops.specs.Ids.{id_cmp}
use Rattle.change_ops.specs.declared.id.OpId.{OpId}
use Rattle.char_sequence.specs.declared.sequence.Element.{Element}
use Rattle.char_sequence.specs.Order.{IsAt}

abbrev pub same_id : OpId → OpId → Bool
same_id a b = is_eq (id_cmp a b)

-- an element has the id
abbrev pub HasId : List Element → OpId → Type 0
HasId es id = (place : ℕ) × IsAt es id place
