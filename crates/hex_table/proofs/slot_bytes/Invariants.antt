use Rattle.hex_table.proofs.Slots.{AreRead}
use Rattle.hex_table.proofs.slot_bytes.Given as goal

abbrev pub invariant-bytes : goal.invariant-bytes
invariant-bytes l = AreRead l.digits l.bytes l.seen l.at
