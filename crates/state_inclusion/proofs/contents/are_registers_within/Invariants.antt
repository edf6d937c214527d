use Rattle.std.proofs.Common.{◌<◌, ℕ}
use Rattle.abstract_state.specs.Situation.{least_of, registers_of}
use Rattle.state_inclusion.specs.Contents.{IsRegisterWithin}
use Rattle.state_inclusion.proofs.contents.are_registers_within.Given as goal

abbrev pub invariant-loop-i : goal.invariant-loop-i
invariant-loop-i l = (k : ℕ) → k < l.i → IsRegisterWithin (least_of l.bounds) (registers_of l.a k) (registers_of l.b k)
