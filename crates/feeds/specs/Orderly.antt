-- The batches of versions, one after another, and what a sink may be sent.
use Rattle.std.specs.Prelude.{◌≡◌, ℕ, ◌+◌, List, [], ◌∷◌, ◌++◌}
use Rattle.std.specs.List.{flat_map}
use Rattle.semantics.specs.Step.{Program}
use Rattle.span_flatten.specs.Version.{Version}
use Rattle.version_history.specs.Tokens.{Token}
use Rattle.feeds.specs.Batches.{Item, items_of}

-- the items of the batches of several versions, one after another
abbrev pub items_of_all : Token Program → List (Token Version) → List Item
items_of_all program versions = flat_map (items_of program) versions

-- the numbers rise by one from this one on
abbrev pub RisesFrom : ℕ → List (Token Version) → Type 0
RisesFrom number [] = Unit {0}
RisesFrom number (version ∷ versions) = (version.value.number ≡ number) × RisesFrom (number + 1) versions

-- a beginning of the batches of one program on versions whose numbers rise by one
pub record IsOrderly (items : List Item) : Type 0 where
  pub program : Token Program
  pub start : ℕ
  pub versions : List (Token Version)
  pub rest : List Item
  pub rises : RisesFrom start versions
  pub is : items ++ rest ≡ items_of_all program versions

-- a sink that is a list: what it was sent, and how much it takes
pub record ListSink : Type 0 where
  pub sent : List Item
  pub capacity : ℕ
