use Rattle.std.proofs.Common.{◌≡◌, take}
use Rattle.assembler_lines.proofs.mnemonics.is_word.Given as goal

abbrev pub invariant-loop-index : goal.invariant-loop-index
invariant-loop-index l = take l.index l.mnemonic ≡ take l.index l.word
