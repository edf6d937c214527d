-- What becomes of the lists of changes and of their versions' tokens.
use Rattle.std.specs.Prelude.{◌≡◌, ◌+◌, Result, Ok, Err, Some, List, [], ◌∷◌, ◌++◌, length, slice_get}
use Rattle.change_ops.specs.Changes.{Change}
use Rattle.change_ops.specs.declared.size.Size.{Size}
use Rattle.span_flatten.specs.Version.{Version}
use Rattle.version_history.specs.Tokens.{Token}
use Rattle.change_history.specs.Accepted.{IsAccepted, IsRefused}
use Rattle.change_history.specs.VersionAt.{IsVersionAt}
use Rattle.change_history.specs.declared.refusal.SubmitError.{SubmitError}

-- there is a token of the version of all changes
abbrev pub HasLatest : List Change → List (Token Version) → Type 0
HasLatest changes versions =
    (token : Token Version) × (slice_get versions (length changes) ≡ Some token)
    × IsVersionAt changes (length changes) token.value

-- both have one more, or stay as they were
abbrev pub Accepts : Size → List Change → List (Token Version) → Change → Result (Token Version) SubmitError
    → List Change → List (Token Version) → Type 0
Accepts size changes versions change (Ok token) changes' versions' =
    IsAccepted size changes change × IsVersionAt (changes ++ change ∷ []) (length changes + 1) token.value
    × (changes' ≡ changes ++ change ∷ []) × (versions' ≡ versions ++ token ∷ [])
Accepts size changes versions change (Err error) changes' versions' =
    (changes' ≡ changes) × (versions' ≡ versions) × IsRefused size changes change error
