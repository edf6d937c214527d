use Rattle.std.proofs.Common.{◌≡◌, ◌+◌, ◌*◌, ◌<◌, ◌≤◌, get_or, refl, sym, ap, ◌∙◌, rules, arith}
use Rattle.std.proofs.lemmas.Grind.{common_steps}
use Rattle.std.specs.Option.{option_map}
use Rattle.change_ops.specs.Words.{digit_of as digit_value, numeral_of}
use Rattle.change_ops.proofs.Digits.{digit_none, digit_more, digit_end}
use Rattle.change_ops.proofs.numeral.numeral_in.Goals as goal

pub returns-in_err-digit : goal.returns-in_err-digit
returns-in_err-digit c =
    let big : c.args.base ≤ digit_value (get_or c.args.word.now c.loop-byte.byte-index 0) = grind (arith, common_steps) in
    let none = sym c.loop-byte.invariant.same ∙ digit_none c.args.base c.args.word.now c.loop-byte.byte-index c.loop-byte.invariant.number c.loop-byte-test.true big in
    search (rules, ap (option_map numeral_of) none)

pub loop-byte-preserved : goal.loop-byte-preserved
loop-byte-preserved c =
    let same : c.in_ok-digit.digit ≡ digit_value (get_or c.args.word.now c.loop-byte.byte-index 0) = search (rules) in
    let low : c.in_ok-digit.digit < c.args.base = search (rules) in
    record {
      number = c.loop-byte.invariant.number * c.args.base + c.in_ok-digit.digit;
      held = c.extended-value.ensures c.loop-byte.invariant.number c.loop-byte.invariant.held;
      same = digit_more c.args.base c.args.word.now c.loop-byte.byte-index c.loop-byte.invariant.number c.in_ok-digit.digit c.loop-byte-test.true same low ∙ c.loop-byte.invariant.same;
    }

pub returns : goal.returns
returns c =
    let all = sym c.loop-byte.invariant.same ∙ digit_end c.args.base c.args.word.now c.loop-byte.byte-index c.loop-byte.invariant.number c.loop-byte-test.false in
    rw (all, c.loop-byte.invariant.held) refl
