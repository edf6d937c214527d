-- Assembler text of bytes, and the first line at fault.
use Rattle.std.specs.Prelude.{◌≡◌, ℕ, ◌+◌, ◌<◌, List, [], length, flat_map, Option, Some, Ok, Err, IsOk}
use Rattle.std.specs.List.{range_with_len}
use Rattle.bpf_words.specs.declared.instruction.Insn.{Insn}
use Rattle.bpf_words.specs.Encoding.{encoded}
use Rattle.assembler_lines.specs.declared.fault.LineFault.{LineFault}
use Rattle.assembler.specs.declared.fault.AsmError.{AsmError}
use Rattle.assembler.specs.declared.fault.AsmError.TheVariants.{Line, OutOfMemory}
use Rattle.assembler_lines.specs.Statements.{Judged}
use Rattle.assembler_lines.specs.Slots.{lines_of, insn_at}

abbrev pub bytes_of : Judged (Option Insn) → List ℕ
bytes_of (Ok (Some insn)) = encoded insn
bytes_of line = []

-- why no bytes come of the line at an index: its fault, by its number from 1, or that memory was wanting
abbrev pub IsFault : ℕ → Judged (Option Insn) → AsmError → Type 0
IsFault k judged (Line line fault) = (line ≡ k + 1) × (Err fault ≡ judged)
IsFault k judged OutOfMemory = Unit {0}

-- the bytes of the first lines
unfoldable pub bytes_before : List (List ℕ) → ℕ → List ℕ
bytes_before lines count = flat_map (λ k. bytes_of (insn_at lines k)) (range_with_len 0 count)

-- no line before this one is at fault
abbrev pub AreRight : List (List ℕ) → ℕ → Type 0
AreRight lines count = (k : ℕ) → k < count → IsOk (insn_at lines k)

-- lines without one at fault, and the bytes of their instructions in order
pub record AreTextOf (lines : List (List ℕ)) (bytes : List ℕ) : Type 0 where
  pub right : AreRight lines (length lines)
  pub whole : bytes ≡ bytes_before lines (length lines)

-- the first line at fault, by its index
pub record FirstFault (lines : List (List ℕ)) (k : ℕ) (fault : LineFault) : Type 0 where
  pub within : k < length lines
  pub here : insn_at lines k ≡ Err fault
  pub before : AreRight lines k

-- why lines are refused; the line that is named counts from 1
abbrev pub AreRefused : List (List ℕ) → AsmError → Type 0
AreRefused lines (Line line fault) = (k : ℕ) × (line ≡ k + 1) × FirstFault lines k fault
AreRefused lines OutOfMemory = Unit {0}

-- a source that is assembler text of bytes
abbrev pub AsmText : List ℕ → List ℕ → Type 0
AsmText source bytes = AreTextOf (lines_of source) bytes

-- why a source is no assembler text
abbrev pub AsmFault : List ℕ → AsmError → Type 0
AsmFault source refusal = AreRefused (lines_of source) refusal
