-- How the bytes of instructions are found to stand, slot by slot.
use Rattle.std.proofs.Common.{◌≡◌, ℕ, ◌+◌, ◌*◌, List, true, false, Ok, arith}
use borrow.Author.Count.{below_more}
use Rattle.bpf_words.specs.declared.instruction.Insn.{Insn}
use Rattle.bpf_words.specs.Encoding.{encoded, IsInsn}
use Rattle.bpf_words.specs.RoundTrip.{StandsAt, Stands, AllStand}
use Rattle.bpf_words.specs.Words.{is_second, read_at, insn_at}

pub stand_none : (bytes : List ℕ) → AllStand bytes 0
stand_none bytes = record { each = λ index h. absurd (omega arith) }

-- the second slot of a wide load has none
pub stand_second : (bytes : List ℕ) (slot : ℕ) → is_second bytes slot ≡ true → AllStand bytes slot → AllStand bytes (slot + 1)
stand_second bytes slot second all = record { each = below_more (λ index. Stands bytes index (insn_at bytes index)) slot all.each (rw second tt) }

pub stand_first : (bytes : List ℕ) (slot : ℕ) (insn : Insn) → is_second bytes slot ≡ false → read_at bytes slot ≡ Ok insn → IsInsn insn → StandsAt bytes (8 * slot) (encoded insn) → AllStand bytes slot → AllStand bytes (slot + 1)
stand_first bytes slot insn first read fits stands all = record {
  each = below_more (λ index. Stands bytes index (insn_at bytes index)) slot all.each (rw (first, read) (fits, stands));
}

pub ruleset standing = (stand_none, stand_second, stand_first)
