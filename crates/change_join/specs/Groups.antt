-- Whole changes put together, so that each group can be one change.
use Rattle.std.specs.Prelude.{◌≡◌, ℕ, ◌≤◌, List, length}
use Rattle.std.specs.List.{AllByRecursion, flat_map}
use Rattle.change_ops.specs.Changes.{Change, operations}
use Rattle.change_ops.specs.Lines.{count_of_lines}

-- they are of one peer, have at most 256 operations together, and mean at most 262,144
pub record CanBeOne (group : List Change) : Type 0 where
  pub node : ℕ
  pub own : AllByRecursion (λ (change : Change). change.node ≡ node) group
  pub few : count_of_lines (flat_map (λ (change : Change). change.lines) group) ≤ 256
  pub meant : length (flat_map operations group) ≤ 262144

-- the changes in groups, each of which can be one
pub record AreGroups (changes : List Change) (groups : List (List Change)) : Type 0 where
  pub whole : flat_map (λ group. group) groups ≡ changes
  pub each : AllByRecursion CanBeOne groups
