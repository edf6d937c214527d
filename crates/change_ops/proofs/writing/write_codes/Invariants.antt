use Rattle.std.proofs.Common.{◌≡◌, ◌++◌, drop}
use Rattle.std.specs.String.{string_bytes}
use Rattle.change_ops.specs.Spelling.{codes_text}
use Rattle.change_ops.proofs.writing.write_codes.Given as goal

abbrev pub invariant-loop-character : goal.invariant-loop-character
invariant-loop-character l = string_bytes l.out ++ codes_text (drop l.character-index l.characters) ≡ string_bytes l.fn.out ++ codes_text l.fn.characters
