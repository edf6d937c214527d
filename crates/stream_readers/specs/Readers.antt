-- What a reader of a program's stream has to give, and what reading gives.
use Rattle.std.specs.Prelude.{◌≡◌, ℕ, ◌+◌, Bool, true, false, Option, None, Some, List, [], ◌∷◌, ◌++◌, length, map}
use Rattle.std.specs.Prelude.{drop}
use mathlib.Core.List.{IsPrefix}
use Rattle.semantics.specs.Step.{Program}
use Rattle.span_flatten.specs.Version.{Version}
use Rattle.version_history.specs.Tokens.{Token}
use Rattle.feeds.specs.declared.item.Finding.{Finding}
use Rattle.feeds.specs.declared.item.Finding.TheVariants.{End}
use Rattle.feeds.specs.Batches.{Item, item_of, hits_from}
use Rattle.feeds.specs.Orderly.{items_of_all}

-- a version that was judged: the verdicts on all its spans, and what was found and isn't given yet
pub record Judged : Type 0 where
  pub version : Token Version
  pub verdicts : List ℕ
  pub pending : List Finding

-- what is found from a span on, where these are the verdicts on all: the hits, and the end unless it was given
abbrev pub found_from : ℕ → ℕ → List ℕ → Bool → List Finding
found_from number span verdicts true = []
found_from number span verdicts false =
    hits_from number span (drop span verdicts) ++ End number (length verdicts) ∷ []

-- the items that a version has which was judged
abbrev pub pending_of : Token Program → Option Judged → List Item
pending_of program None = []
pending_of program (Some judged) = map (item_of program judged.version) judged.pending

-- a reader: the program, the first version that it didn't judge, and the items that it has and didn't give
pub record Reader : Type 0 where
  pub program : Token Program
  pub next : ℕ
  pub pending : List Item

-- one that begins with a version
abbrev pub fresh : Token Program → ℕ → Reader
fresh program first = record { program = program; next = first; pending = [] }

-- these items were given, where these are the tokens of all versions there are: they, and then what is pending, are
-- what was pending, and then the items of the next versions
pub record Reads (all : List (Token Version)) (r : Reader) (given : List Item) (r' : Reader) : Type 0 where
  pub versions : List (Token Version)
  pub are : IsPrefix versions (drop r.next all)
  pub program : r'.program ≡ r.program
  pub next : r'.next ≡ r.next + length versions
  pub joined : given ++ r'.pending ≡ r.pending ++ items_of_all r.program versions
