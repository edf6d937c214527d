use Rattle.std.proofs.Common.{◌<◌, ℕ}
use Rattle.abstract_state.specs.Situation.{least_of}
use Rattle.abstract_state.specs.Stacks.{slots_of}
use Rattle.state_inclusion.specs.Contents.{IsSlotWithin}
use Rattle.state_inclusion.proofs.contents.are_slots_within.Given as goal

abbrev pub invariant-loop-i : goal.invariant-loop-i
invariant-loop-i l = (k : ℕ) → k < l.i → IsSlotWithin (least_of l.bounds) (slots_of l.a k) (slots_of l.b k)
