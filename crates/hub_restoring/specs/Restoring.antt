-- A hub that starts again from what a log keeps.
use Rattle.std.specs.Prelude.{◌≡◌, ℕ, List, [], ◌∷◌, map, Ok}
use Rattle.std.specs.List.{AllByRecursion}
use Rattle.change_ops.specs.Changes.{Change, IsChange}
use Rattle.change_ops.specs.declared.size.Size.{Size}
use Rattle.change_ops.specs.Spelling.{change_text}
use Rattle.core_history.specs.Shares.{accepted_count}
use Rattle.core_history.specs.Hubs.{Seen}
use Rattle.ingest_workers.specs.Holdings.{Ingests}

-- these changes were accepted, one after another, each by one call of the share, under the number of all changes that
-- the share has had accepted
abbrev pub AreIngested : Size → Seen → List Change → Seen → Type 0
AreIngested size v [] w = w ≡ v
AreIngested size v (change ∷ changes) w =
    (u : Seen) × Ingests size v change (Ok (accepted_count u)) u × AreIngested size u changes w

-- whichever changes these are the texts of, they were accepted in this way
abbrev pub AreRestored : Size → Seen → List (List ℕ) → Seen → Type 0
AreRestored size v texts w =
    (changes : List Change) → texts ≡ map change_text changes → AllByRecursion IsChange changes
    → AreIngested size v changes w
