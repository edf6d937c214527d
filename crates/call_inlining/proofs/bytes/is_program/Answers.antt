use Rattle.std.proofs.Common.{◌≡◌, length, arith}
use Rattle.bpf_words.specs.Words.{program_of}
use Rattle.call_inlining.proofs.Slots.{same_slots}
use Rattle.call_inlining.proofs.bytes.is_program.Goals as goal

pub returns : goal.returns
returns c = λ is.
    let long : length (program_of c.args.words.now) ≡ length c.args.program.now = omega arith in
    same_slots (program_of c.args.words.now) c.args.program.now long (λ k below. c.loop-slot.invariant k (omega arith))
