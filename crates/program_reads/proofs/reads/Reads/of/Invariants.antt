use Rattle.std.proofs.Common.{ℕ, ◌<◌, None, get_or}
use Rattle.bpf_words.specs.Words.{program_of}
use Rattle.bpf_words.specs.Flow.{StartsAt}
use Rattle.bpf_words.specs.declared.instruction.Insn.{Insn}
use Rattle.semantics.specs.State.{State}
use Rattle.abstract_state.specs.Lent.{Lengths}
use Rattle.abstract_state.specs.State.{WithinState}
use Rattle.program_reads.specs.Loads.{CoversLoad}
use Rattle.program_reads.proofs.reads.Reads.of.Given as goal

abbrev pub invariant-loop-slot : goal.invariant-loop-slot
invariant-loop-slot l = record {
  covers : (slot : ℕ) (insn : Insn) (lengths : Lengths) (s : State) → slot < l.slot → StartsAt (program_of l.words) slot insn → WithinState (get_or l.states slot None) lengths s → CoversLoad l.reads s insn;
}
