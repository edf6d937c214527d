-- A history that a log keeps.
use Rattle.std.specs.Prelude.{◌≡◌, ℕ, Bool, true, List, length, map}
use Rattle.change_ops.specs.Changes.{Change}
use Rattle.change_ops.specs.declared.size.Size.{Size}
use Rattle.change_ops.specs.Spelling.{change_text}
use Rattle.stored_history.specs.declared.error.AcceptError.{AcceptError}
use Rattle.stored_history.specs.declared.error.AcceptError.TheVariants.{LogFailed, OutOfMemory}

-- its size, its changes, its log, and whether the log failed
pub record Stored (L : Type 0) : Type 0 where
  pub size : Size
  pub changes : List Change
  pub log : L
  pub is_failed : Bool

-- What is as before after want of memory, where `kept` says which texts a log keeps: the size, the number of the
-- changes, that the log works, and all texts that it keeps. The changes may have been read again, so they are of texts
-- that it keeps.
pub record IsAsBefore {L : Type 0} (kept : L → List (List ℕ) → Type 0) (old new : Stored L) : Type 0 where
  pub size : new.size ≡ old.size
  pub count : length new.changes ≡ length old.changes
  pub works : new.is_failed ≡ old.is_failed
  pub texts : (texts : List (List ℕ)) → kept old.log texts → kept new.log texts
  pub changes : kept new.log (map change_text new.changes)

-- what is left after changes were not accepted
abbrev pub IsLeft : {L : Type 0} → (L → List (List ℕ) → Type 0) → Stored L → AcceptError → Stored L → Type 0
IsLeft kept old LogFailed new = new.is_failed ≡ true
IsLeft kept old OutOfMemory new = IsAsBefore kept old new
