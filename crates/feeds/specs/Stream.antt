-- What a program says of accepted changes.
use Rattle.std.specs.Prelude.{◌≡◌, ℕ, ◌+◌, List, [], ◌∷◌, ◌++◌, length}
use Rattle.std.specs.List.{flat_map}
use Rattle.change_ops.specs.Changes.{Change}
use Rattle.semantics.specs.Step.{Program}
use Rattle.span_flatten.specs.Version.{Version}
use Rattle.feeds.specs.declared.item.Finding.{Finding}
use Rattle.feeds.specs.Batches.{batch_of}
use Rattle.change_history.specs.VersionAt.{IsVersionAt}

-- the versions of the changes from this number on, one after another
abbrev pub AreVersionsFrom : List Change → ℕ → List Version → Type 0
AreVersionsFrom changes n [] = Unit {0}
AreVersionsFrom changes n (version ∷ versions) =
    IsVersionAt changes n version × AreVersionsFrom changes (n + 1) versions

-- the batches of the versions from a first to a last one, joined
pub record IsStream (program : Program) (changes : List Change) (first last : ℕ) (findings : List Finding) : Type 0
  where
    pub versions : List Version
    pub are : AreVersionsFrom changes first versions
    pub to_last : first + length versions ≡ last + 1
    pub joined : findings ≡ flat_map (batch_of program) versions

-- a beginning of that
pub record BeginsStream (program : Program) (changes : List Change) (first last : ℕ) (findings : List Finding) : Type 0
  where
    pub rest : List Finding
    pub stream : IsStream program changes first last (findings ++ rest)
