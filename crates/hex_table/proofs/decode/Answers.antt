use Rattle.std.proofs.Common.{◌/◌, length, arith}
use Rattle.hex_table.proofs.Joined.{begun, one_more, stopped}
use Rattle.hex_table.proofs.decode.Goals as goal

pub loop-slot-init : goal.loop-slot-init
loop-slot-init c =
    begun c.args.digits.now c.in_ok-bytes.bytes.items c.as_chunks.result.0.now c.as_chunks.result.1.now (length c.args.digits.now / 16)
    c.in_ok-bytes.ensures.items c.as_chunks.ensures.front c.as_chunks.ensures.back

pub returns-in_default : goal.returns-in_default
returns-in_default c =
    stopped c.args.digits.now c.loop-slot.bytes.items c.as_chunks.result.1.now _ c.as_chunks.result.0.now c.loop-slot.slot-index (omega arith) c.in_default.ensures
    c.loop-slot.invariant

pub loop-slot-preserved : goal.loop-slot-preserved
loop-slot-preserved c =
    one_more c.args.digits.now c.loop-slot.bytes.items c.extend_from_slice.new.self.items c.in-Some.part c.as_chunks.result.1.now _ c.as_chunks.result.0.now
    c.loop-slot.slot-index (omega arith) c.in-Some.ensures c.in_ok-extend_from_slice.ensures.items c.loop-slot.invariant
