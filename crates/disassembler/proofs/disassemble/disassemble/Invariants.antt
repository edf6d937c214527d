use Rattle.std.proofs.Common.{◌≡◌, take}
use Rattle.std.specs.Prelude.{string_bytes}
use Rattle.bpf_words.specs.Words.{program_of}
use Rattle.disassembler.specs.Canonical.{canonical}
use Rattle.disassembler.proofs.disassemble.disassemble.Given as goal

abbrev pub invariant-loop-index : goal.invariant-loop-index
invariant-loop-index l = string_bytes l.lines ≡ canonical (take l.index (program_of l.words))
