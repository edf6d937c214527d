-- Places of the text before a change and after it.
use Rattle.std.specs.Prelude.{◌≡◌, ◌≤◌, ℕ, List, length, slice_get}
use Rattle.char_sequence.specs.declared.sequence.Element.{Element}

-- at a place of the old elements stands what stands at one of the new ones, or both are where the elements end
abbrev pub IsSamePlace : List Element → List Element → ℕ → ℕ → Type 0
IsSamePlace old new at place = (at ≤ length old) × (slice_get old at ≡ slice_get new place)
