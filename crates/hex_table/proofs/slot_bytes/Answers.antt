use Rattle.std.proofs.Common.{arith}
use Rattle.hex_table.proofs.Slots.{read_more, read_whole, none_read}
use Rattle.hex_table.proofs.slot_bytes.Goals as goal

pub bytes-preserved : goal.bytes-preserved
bytes-preserved c = read_more c.args.digits.now c.bytes.bytes c.bytes.seen c.bytes.at c.pair-value.result (omega arith) (omega arith) c.pair-value.ensures c.bytes.invariant

pub returns-then-seen-lt-NONE : goal.returns-then-seen-lt-NONE
returns-then-seen-lt-NONE c = read_whole c.args.digits.now c.bytes.bytes c.bytes.seen c.bytes.at (omega arith) (omega arith) (omega arith) c.bytes.invariant

pub returns-else-seen-lt-NONE : goal.returns-else-seen-lt-NONE
returns-else-seen-lt-NONE c = none_read c.args.digits.now c.bytes.bytes c.bytes.seen c.bytes.at (omega arith) (omega arith) c.bytes.invariant
