-- The parts of a hub's history that the shares of a case have.
use Rattle.std.specs.Prelude.{ℕ, List, sum, map}
use Rattle.core_history.specs.Hubs.{Seen}

-- how many they have in all
abbrev pub all_parts : List Seen → ℕ
all_parts shares = sum (map (λ share. share.parts) shares)
