use Rattle.std.proofs.Common.{ℕ, ◌<◌, slice_index}
use Rattle.bpf_words.specs.Words.{program_of}
use Rattle.block_layout.specs.Kept.{IsKept}
use Rattle.block_layout.proofs.check.are_kept.Given as goal

abbrev pub invariant-loop-slot : goal.invariant-loop-slot
invariant-loop-slot l = (slot : ℕ) → slot < l.slot → 0 < slice_index l.places.heights.now slot
    → IsKept (program_of l.old) (program_of l.new) l.places.slots.now l.places.heights.now slot
