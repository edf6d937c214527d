use Rattle.std.proofs.Common.{◌+◌, arith}
use Rattle.bpf_words.specs.Words.{program_of}
use Rattle.block_layout.proofs.Rooms.{rooms_more}
use Rattle.block_layout.proofs.Spreading.{entry_at}
use Rattle.block_layout.proofs.spread.rooms.Goals as goal

pub loop-slot-preserved : goal.loop-slot-preserved
loop-slot-preserved c =
    let entry = entry_at (program_of c.args.words.now) c.loop-slot.slot (omega arith) in
    rooms_more (program_of c.args.words.now) c.loop-slot.rooms.items c.push.new.self.items c.loop-slot.slot (c.loop-slot.slot + 1) c.room_at.result entry.0 (omega arith) entry.1 (c.room_at.ensures entry.0 entry.1) c.in_ok-push.ensures.items c.loop-slot.invariant
