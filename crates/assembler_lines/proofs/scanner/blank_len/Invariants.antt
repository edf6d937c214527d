use Rattle.std.proofs.Common.{◌≡◌, drop}
use Rattle.assembler_lines.specs.Tokens.{tokens_of}
use Rattle.assembler_lines.proofs.scanner.blank_len.Given as goal

abbrev pub invariant-loop-index : goal.invariant-loop-index
invariant-loop-index l = tokens_of (drop l.index l.bytes) ≡ tokens_of l.bytes
