use Rattle.std.proofs.Common.{◌≤◌, ◌/◌, length, arith}
use Rattle.bpf_words.proofs.Second.{length-program_of}
use Rattle.known_ways.proofs.Gathering.{begins_cut, begins_more}
use Rattle.known_ways.proofs.before.ended_at.Goals as goal

pub loop-slot-init : goal.loop-slot-init
loop-slot-init c =
    let within : c.args.last ≤ length c.args.words.now / 8 = omega (arith, c.requires, length-program_of c.args.words.now) in
    begins_cut c.args.words.now c.in_ok-bytes.bytes.items c.truncate.new.self.items c.args.last c.in_ok-bytes.ensures.value c.truncate.ensures.items within

pub loop-slot-preserved : goal.loop-slot-preserved
loop-slot-preserved c =
    begins_more c.args.words.now c.loop-slot.bytes.items c.bytes.result.now c.extend_from_slice.new.self.items c.args.last c.loop-slot.invariant c.in_ok-extend_from_slice.ensures.items

pub returns : goal.returns
returns c =
    begins_more c.args.words.now c.loop-slot.bytes.items _ _ c.args.last c.loop-slot.invariant c.in_ok-extend_from_slice-2.ensures.items
