use Rattle.std.proofs.Common.{◌≡◌, ℕ, ◌<◌}
use Rattle.std.specs.Prelude.{slice_get}
use Rattle.bpf_words.specs.Words.{program_of}
use Rattle.call_inlining.proofs.bytes.is_program.Given as goal

-- the slots so far are the same
abbrev pub invariant-loop-slot : goal.invariant-loop-slot
invariant-loop-slot l = (k : ℕ) → k < l.slot → slice_get (program_of l.words) k ≡ slice_get l.program k
