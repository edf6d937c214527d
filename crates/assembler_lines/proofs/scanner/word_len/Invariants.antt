use Rattle.std.proofs.Common.{take}
use Rattle.assembler_lines.specs.Pieces.{AreWordBytes}
use Rattle.assembler_lines.proofs.scanner.word_len.Given as goal

abbrev pub invariant-loop-index : goal.invariant-loop-index
invariant-loop-index l = AreWordBytes (take l.index l.bytes)
