-- The version after the first changes of several.
use Rattle.std.specs.Prelude.{ℕ, List, take}
use Rattle.change_ops.specs.Changes.{Change}
use Rattle.span_flatten.specs.Version.{Version, IsVersion}
use Rattle.change_history.specs.Accepted.{operations_of}

-- it has the number `n`, and the spans of the operations of the first `n` changes
abbrev pub IsVersionAt : List Change → ℕ → Version → Type 0
IsVersionAt changes n version = IsVersion (operations_of (take n changes)) n version
