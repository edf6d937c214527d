-- How many steps a run of a program that loops may take at most, on the longest texts.
use Rattle.std.specs.Prelude.{ℕ, ◌^◌}

-- it isn't unfolded by itself, so that no proof computes a run of so many steps
unfoldable pub longest_run : ℕ
longest_run = 2 ^ 23
