-- The ids of the open subscribers.
use Rattle.std.specs.Prelude.{ℕ, ◌+◌, if◌then◌else◌, List, [], ◌∷◌}
use Rattle.feeds.specs.Feed.{Subscriber}

-- the indexes of those that are not closed, where that of the first one is this number
unfoldable pub open_ids : {S : Type 0} → ℕ → List (Subscriber S) → List ℕ
open_ids first [] = []
open_ids first (a ∷ more) = if a.closed then open_ids (first + 1) more else first ∷ open_ids (first + 1) more
