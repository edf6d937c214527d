use Rattle.std.proofs.Common.{◌≡◌, ◌<◌, ℕ, true}
use Rattle.abstract_state.specs.Stacks.{mark}
use Rattle.state_inclusion.proofs.contents.are_bytes_within.Given as goal

abbrev pub invariant-loop-j : goal.invariant-loop-j
invariant-loop-j l = (k : ℕ) → k < l.j → mark l.b k ≡ true → mark l.a k ≡ true
