use Rattle.hex_table.proofs.Joined.{IsRead, behind}
use Rattle.hex_table.proofs.decode.Given as goal

abbrev pub invariant-loop-slot : goal.invariant-loop-slot
invariant-loop-slot l = IsRead l.fn.digits l.bytes.items (behind l.slots l.rest l.slot-index)
