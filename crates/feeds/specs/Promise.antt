-- What a sink promises of all that it is sent.
use Rattle.std.specs.Prelude.{◌≡◌, ℕ, ◌+◌, ◌⊎◌, Option, None, Some, List, [], length, map, slice_get}
use Rattle.change_ops.specs.Changes.{Change}
use Rattle.change_ops.specs.declared.size.Size.{Size}
use Rattle.semantics.specs.Step.{Program}
use Rattle.span_flatten.specs.Version.{Version}
use Rattle.version_history.specs.Tokens.{Token}
use Rattle.change_history.specs.Accepted.{AreAccepted}
use Rattle.change_history.specs.VersionAt.{IsVersionAt}
use Rattle.feeds.specs.Batches.{Item}
use Rattle.feeds.specs.Stream.{BeginsStream}

-- the stream of a program over changes that are accepted at a size, from this version on, or where none is named from
-- some version on
pub record Promise : Type 0 where
  pub size : Size
  pub program : Program
  pub first : Option ℕ

-- the version is the one that is named, if one is
abbrev pub IsNamed : Option ℕ → ℕ → Type 0
IsNamed None number = Unit {0}
IsNamed (Some named) number = named ≡ number

-- the findings of these items begin the stream of the program over some accepted changes, from its first version to the
-- last
pub record BeginsPromised (promise : Promise) (items : List Item) : Type 0 where
  pub changes : List Change
  pub accepted : AreAccepted promise.size changes
  pub first : ℕ
  pub named : IsNamed promise.first first
  pub begins : BeginsStream promise.program changes first (length changes) (map (λ item. item.what) items)

-- these items are promised: none at all, or such a beginning; without a promise any are
abbrev pub IsPromised : Option Promise → List Item → Type 0
IsPromised None items = Unit {0}
IsPromised (Some promise) items = (items ≡ []) ⊎ BeginsPromised promise items

-- what a subscriber of this program is sent from this version on, in a hub of this size, is promised
abbrev pub Suits : Option Promise → Size → Program → ℕ → Type 0
Suits None size program first = Unit {0}
Suits (Some promise) size program first =
    (promise.size ≡ size) × (promise.program ≡ program) × IsNamed promise.first first

-- the tokens of all versions of some accepted changes, from version 0 on
pub record AreOfChanges (size : Size) (tokens : List (Token Version)) : Type 0 where
  pub changes : List Change
  pub accepted : AreAccepted size changes
  pub all : length tokens ≡ length changes + 1
  pub are : (n : ℕ) (t : Token Version) → slice_get tokens n ≡ Some t → IsVersionAt changes n t.value
