use Rattle.std.proofs.Common.{subst, below_more, rules}
use Rattle.std.specs.Bool.{IsTrue}
use Rattle.abstract_state.specs.Stacks.{Eight, eight_of, slots_of}
use Rattle.abstract_state.specs.Situation.{least_of}
use Rattle.state_inclusion.specs.Contents.{IsSlotWithin}
use Rattle.state_inclusion.proofs.contents.are_slots_within.Goals as goal

pub loop-i-preserved : goal.loop-i-preserved
loop-i-preserved c =
    let yes : IsTrue c.is_slot_within.result = search rules in
    below_more _ _ c.loop-i.invariant
    (subst (λ (x : Eight). IsSlotWithin (least_of c.args.bounds) x (slots_of c.args.b.now c.loop-i.i)) c.slot_in.ensures
    (subst (λ (y : Eight). IsSlotWithin (least_of c.args.bounds) (eight_of c.slot_in.result) y) c.slot_in-in-loop-i.ensures (c.is_slot_within.ensures.0 yes)))
