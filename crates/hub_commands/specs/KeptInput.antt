-- An input of changes that is kept whole.
use Rattle.std.specs.Prelude.{◌≡◌, ℕ, List}
use Rattle.change_ops.specs.declared.size.Size.{Size}
use Rattle.hub_commands.specs.ChangesInput.{IsChangesInput, IsWholeInput}
use Rattle.hub_commands.specs.declared.join.KeptInput.{KeptInput}

-- these bytes were read, for a document of the size
pub record IsKept (size : Size) (input : List ℕ) (kept : KeptInput) : Type 0 where
  pub read : IsChangesInput size input kept.changes
  pub bytes : kept.bytes.items ≡ input

-- these bytes are the whole input, for a document of the size
pub record IsKeptWhole (size : Size) (input : List ℕ) (kept : KeptInput) : Type 0 where
  pub read : IsWholeInput size input kept.changes
  pub bytes : kept.bytes.items ≡ input
