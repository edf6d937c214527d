use Rattle.std.proofs.Common.{ℕ, ◌+◌, ◌<◌, sym, subst}
use Rattle.bpf_words.specs.Words.{program_of}
use Rattle.bpf_words.specs.Flow.{slots_of}
use Rattle.block_layout.proofs.Leading.{falls_within, jumps_within}
use Rattle.block_layout.proofs.loops.open_way.Goals as goal

pub open_behind-requires-clause-sound : goal.open_behind-requires-clause-sound
open_behind-requires-clause-sound c = λ falls.
    subst (λ (n : ℕ). c.args.slot + slots_of c.in-Some.insn < n) (sym c.requires.long)
    (falls_within (program_of c.args.words.now) c.args.slot c.in-Some.insn c.requires.connected c.requires.slot c.in-Some.ensures.value falls)

pub open_target-requires-clause-sound : goal.open_target-requires-clause-sound
open_target-requires-clause-sound c = λ to jumps.
    subst (λ (n : ℕ). to < n) (sym c.requires.long)
    (jumps_within (program_of c.args.words.now) c.args.slot c.in-Some.insn c.requires.connected c.requires.slot c.in-Some.ensures.value to jumps)
