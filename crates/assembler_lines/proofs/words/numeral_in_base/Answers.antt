use Rattle.std.proofs.Common.{◌≡◌, ◌<◌, get_or, rules}
use Rattle.std.specs.Char.{digit_value}
use Rattle.assembler_lines.proofs.Digits.{all_more, value_more}
use Rattle.assembler_lines.proofs.words.numeral_in_base.Goals as goal

pub loop-byte-preserved : goal.loop-byte-preserved
loop-byte-preserved c =
    let small : digit_value (get_or c.args.digits.now c.loop-byte.byte-index 0) < c.args.base = search (rules, c.in_ok-digit.ensures.value) in
    let same : c.in_ok-digit.digit ≡ digit_value (get_or c.args.digits.now c.loop-byte.byte-index 0) = search (rules, c.in_ok-digit.ensures.value) in
    record {
      digits = all_more c.args.base c.loop-byte.byte-index c.args.digits.now c.loop-byte-test.true small c.loop-byte.invariant.digits;
      value = value_more c.args.base c.loop-byte.byte-index c.in_ok-digit.digit c.args.digits.now _ c.loop-byte-test.true same
          (rw (c.from-in-loop-byte.ensures, c.from-in-loop-byte-2.ensures) at (c.extended-value.ensures _ c.loop-byte.invariant.value));
    }
