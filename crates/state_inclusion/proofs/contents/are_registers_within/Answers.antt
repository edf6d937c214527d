use Rattle.std.proofs.Common.{Option, subst, below_more, rules}
use Rattle.std.specs.Bool.{IsTrue}
use Rattle.abstract_state.specs.Addresses.{Content}
use Rattle.abstract_state.specs.Situation.{least_of, register_of, registers_of}
use Rattle.state_inclusion.specs.Contents.{IsRegisterWithin}
use Rattle.state_inclusion.proofs.contents.are_registers_within.Goals as goal

pub loop-i-preserved : goal.loop-i-preserved
loop-i-preserved c =
    let yes : IsTrue c.is_register_within.result = search rules in
    below_more _ _ c.loop-i.invariant
    (subst (λ (x : Option Content). IsRegisterWithin (least_of c.args.bounds) x (registers_of c.args.b.now c.loop-i.i)) c.register_in.ensures
    (subst (λ (y : Option Content). IsRegisterWithin (least_of c.args.bounds) (register_of c.register_in.result) y) c.register_in-in-loop-i.ensures (c.is_register_within.ensures.0 yes)))
