use Rattle.std.proofs.Common.{ℕ, zero, suc, ◌<◌, ◌≤◌, List, [], ◌∷◌, slice_index, length, IsTrue, rules, arith}
use borrow.Author.Count.{below_more}
use Rattle.bpf_words.specs.Words.{program_of}
use Rattle.semantics.specs.Step.{Program}
use Rattle.block_layout.specs.Kept.{IsKept}
use Rattle.block_layout.proofs.check.are_kept.Goals as goal

-- a slot that has a height is one of the list's
has_height : (heights : List ℕ) (slot : ℕ) → 0 < slice_index heights slot → slot < length heights
has_height [] slot some = absurd (omega arith)
has_height (height ∷ rest) zero some = omega arith
has_height (height ∷ rest) (suc slot) some = let within = has_height rest slot some in omega arith

kept_below : (old new : Program) (places heights : List ℕ) (end : ℕ) → length heights ≤ end → ((slot : ℕ) → slot < end → 0 < slice_index heights slot → IsKept old new places heights slot) → (slot : ℕ) → 0 < slice_index heights slot → IsKept old new places heights slot
kept_below old new places heights end long each slot some =
    let within = has_height heights slot some in
    each slot (omega arith) some

pub loop-slot-preserved : goal.loop-slot-preserved
loop-slot-preserved c =
    let is : IsTrue c.is_kept.result = search rules in
    below_more (λ slot. 0 < slice_index c.args.places.now.heights.now slot → IsKept (program_of c.args.old.now) (program_of c.args.new.now) c.args.places.now.slots.now c.args.places.now.heights.now slot)
    c.loop-slot.slot c.loop-slot.invariant (c.is_kept.ensures is)

pub returns : goal.returns
returns c = λ is.
    kept_below (program_of c.args.old.now) (program_of c.args.new.now) c.args.places.now.slots.now c.args.places.now.heights.now c.loop-slot.slot (omega arith) c.loop-slot.invariant
