-- What a program says of a version.
use Rattle.std.specs.Prelude.{ℕ, ◌+◌, ◌==◌, cond, List, [], ◌∷◌, ◌++◌, length, map}
use Rattle.semantics.specs.Step.{Program}
use Rattle.span_flatten.specs.Version.{Version}
use Rattle.version_history.specs.Tokens.{Token}
use Rattle.feeds.specs.declared.item.Finding.{Finding}
use Rattle.feeds.specs.declared.item.Finding.TheVariants.{Hit, End}
use Rattle.feeds.specs.Verdicts.{verdicts_of}

-- an item: the finding, and the tokens of its program and its version
pub record Item : Type 0 where
  pub what : Finding
  pub program : Token Program
  pub version : Token Version

-- a job and, since its items follow from it, a batch: the subscriber, the version's number, and the tokens of program
-- and version
pub record Job : Type 0 where
  pub subscriber : ℕ
  pub number : ℕ
  pub program : Token Program
  pub version : Token Version

-- a hit for each verdict that is not 0, where these are the verdicts on the spans from this index on
abbrev pub hits_from : ℕ → ℕ → List ℕ → List Finding
hits_from number index [] = []
hits_from number index (verdict ∷ verdicts) =
    cond (verdict == 0) (hits_from number (index + 1) verdicts)
    (Hit number index verdict ∷ hits_from number (index + 1) verdicts)

-- the batch of a program and a version: the hits, by rising index, and the end
abbrev pub batch_of : Program → Version → List Finding
batch_of program version =
    hits_from version.number 0 (verdicts_of program version) ++ End version.number (length version.rows) ∷ []

-- a finding with the tokens of its program and its version
abbrev pub item_of : Token Program → Token Version → Finding → Item
item_of program version what = record { what = what; program = program; version = version }

-- the items of the batch of two tokens
abbrev pub items_of : Token Program → Token Version → List Item
items_of program version = map (item_of program version) (batch_of program.value version.value)
