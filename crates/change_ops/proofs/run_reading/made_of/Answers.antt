use Rattle.change_ops.proofs.RunReading.{made_invariant}
use Rattle.change_ops.proofs.run_reading.made_of.Goals as goal

pub invariant_of-owned : goal.invariant_of-owned
invariant_of-owned c = made_invariant c.args.id c.args.parent c.args.count c.args.codes.now c.in_ok-characters.characters.items c.requires.named c.requires.some c.requires.few c.requires.last c.in_ok-characters.ensures
