-- What is covered stays so as the list grows.
use Rattle.std.proofs.Common.{ℕ, ◌+◌, arith}
use Rattle.bpf_words.specs.declared.instruction.Insn.{Insn}
use Rattle.bpf_words.specs.declared.instruction.Insn.TheVariants.{Compute, Negate, Extend, Convert, Jump, JumpLong, Branch, Load, LoadSigned, Store, LoadWide, Exit}
use Rattle.semantics.specs.State.{State}
use Rattle.program_reads.specs.declared.reads.Reads.{Reads}
use Rattle.program_reads.specs.Reads.{CoversAt}
use Rattle.program_reads.specs.Loads.{CoversLoad}
use Rattle.program_reads.specs.Marks.{Grows}

covers_at : (old new : Reads) → Grows old new → (address count : ℕ) → CoversAt old address count → CoversAt new address count
covers_at old new grows address count covers = record {
  context = λ offset at fits k less. grows.context (offset + k) (covers.context offset at fits k less);
  text = λ offset at fits. let low = covers.text offset at fits in let high = grows.text in omega arith;
  link = λ offset at fits. let low = covers.link offset at fits in let high = grows.link in omega arith;
}

pub covers_load : (old new : Reads) → Grows old new → (s : State) (insn : Insn) → CoversLoad old s insn → CoversLoad new s insn
covers_load old new grows s (Compute width operation destination operand) covers = tt
covers_load old new grows s (Negate width destination) covers = tt
covers_load old new grows s (Extend extension destination source) covers = tt
covers_load old new grows s (Convert conversion bits destination) covers = tt
covers_load old new grows s (Jump distance) covers = tt
covers_load old new grows s (JumpLong distance) covers = tt
covers_load old new grows s (Branch width comparison left right distance) covers = tt
covers_load old new grows s (Load size destination base offset) covers = λ n is. covers_at old new grows _ _ (covers n is)
covers_load old new grows s (LoadSigned size destination base offset) covers = λ n is. covers_at old new grows _ _ (covers n is)
covers_load old new grows s (Store size base offset value) covers = tt
covers_load old new grows s (LoadWide destination value) covers = tt
covers_load old new grows s Exit covers = tt
