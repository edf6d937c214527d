-- What readings one after another give together.
use Rattle.std.specs.Prelude.{◌≡◌, ℕ, ◌+◌, ◌≤◌, List, [], ◌∷◌, length, map, slice_get, Some}
use Rattle.std.specs.List.{flat_map}
use mathlib.Core.List.{IsPrefix}
use Rattle.change_ops.specs.Changes.{Change}
use Rattle.semantics.specs.Step.{Program}
use Rattle.span_flatten.specs.Version.{Version}
use Rattle.version_history.specs.Tokens.{Token}
use Rattle.change_history.specs.VersionAt.{IsVersionAt}
use Rattle.feeds.specs.Batches.{Item}
use Rattle.feeds.specs.Stream.{BeginsStream}
use Rattle.stream_readers.specs.Readers.{Reader, Reads, fresh}

-- lists one after another
abbrev pub joined : List (List Item) → List Item
joined given = flat_map (λ one. one) given

-- readings one after another, where these are all versions there are
abbrev pub ReadsOn : List (Token Version) → Reader → List (List Item) → Reader → Type 0
ReadsOn all r [] r' = r' ≡ r
ReadsOn all r (given ∷ more) r' = (mid : Reader) × Reads all r given mid × ReadsOn all mid more r'

-- what was read is read also where there are more versions
abbrev pub IsReadLater : Type 0
IsReadLater =
    (all more : List (Token Version)) (r r' : Reader) (given : List Item) → IsPrefix all more → Reads all r given r'
    → Reads more r given r'

-- readings one after another are one that gives all that they give
abbrev pub AreReadAsOne : Type 0
AreReadAsOne =
    (all : List (Token Version)) (r r' : Reader) (given : List (List Item)) → ReadsOn all r given r'
    → Reads all r (joined given) r'

-- these are the versions of changes, from version 0 on
pub record AreVersions (changes : List Change) (all : List (Token Version)) : Type 0 where
  pub each : length all ≡ length changes + 1
  pub are : (n : ℕ) (t : Token Version) → slice_get all n ≡ Some t → IsVersionAt changes n t.value

-- what is given from a first version on begins the program's stream over the changes whose versions are read
abbrev pub GivesTheStream : Type 0
GivesTheStream =
    (changes : List Change) (all : List (Token Version)) (program : Token Program) (first : ℕ) (given : List Item)
    (r : Reader) → AreVersions changes all → first ≤ length changes → Reads all (fresh program first) given r
    → BeginsStream program.value changes first (length changes) (map (λ item. item.what) given)
