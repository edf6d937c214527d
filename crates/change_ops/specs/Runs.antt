-- A run: characters that were typed one after the other, and the inserts that it means.
use Rattle.std.specs.Prelude.{ℕ, ◌+◌, ◌^◌, nat_le, ◌&&◌, Bool, List, [], ◌∷◌, length, Option, Some}
use Rattle.std.specs.List.{list_all}
use Rattle.change_ops.specs.Ids.{OpId, within_limits, is_character}
use Rattle.change_ops.specs.Limits.{parent_within}
use Rattle.change_ops.specs.declared.operation.Op.{Op}
use Rattle.change_ops.specs.declared.operation.Op.TheVariants.{Insert}

-- the id of the first character, what that one stands after, and the characters
pub record Run : Type 0 where
  pub id : OpId
  pub parent : Option OpId
  pub characters : List ℕ

-- the id whose counter is greater by one
abbrev pub next_id : OpId → OpId
next_id id = record { counter = id.counter + 1; node = id.node }

-- an insert for each character: the first with the id and after the parent, each next with the next id and after the
-- one before it
unfoldable pub inserts_from : OpId → Option OpId → List ℕ → List Op
inserts_from id parent [] = []
inserts_from id parent (character ∷ characters) =
    Insert id parent character ∷ inserts_from (next_id id) (Some id) characters

abbrev pub inserts_of : Run → List Op
inserts_of run = inserts_from run.id run.parent run.characters

-- 2 to 256 characters, of which the last has a counter below 2^48
abbrev pub run_within : Run → Bool
run_within run =
    (within_limits run.id && parent_within run.parent)
    && (nat_le 2 (length run.characters) && nat_le (length run.characters) 256
    && nat_le (run.id.counter + length run.characters) (2 ^ 48))

abbrev pub run_has_characters : Run → Bool
run_has_characters run = list_all is_character run.characters
