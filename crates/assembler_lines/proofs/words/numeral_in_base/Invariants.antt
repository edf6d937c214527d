use Rattle.std.proofs.Common.{◌≡◌, true, take}
use Rattle.std.specs.List.{list_all}
use Rattle.std.specs.Char.{is_digit}
use Rattle.std.specs.Str.Parse.{digits_value}
use Rattle.assembler_lines.specs.Terms.{bounded}
use Rattle.assembler_lines.proofs.words.numeral_in_base.Given as goal

abbrev pub invariant-loop-byte : goal.invariant-loop-byte
invariant-loop-byte l = record {
  digits : list_all (λ b. is_digit b l.base) (take l.byte-index l.digits) ≡ true;
  value : l.value ≡ bounded (digits_value l.base (take l.byte-index l.digits));
}
