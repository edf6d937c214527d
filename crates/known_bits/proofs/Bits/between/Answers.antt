use Rattle.std.proofs.Common.{refl, ap, sym, ◌∙◌, rules}
use Rattle.known_bits.specs.Bits.{bit}
use Rattle.known_bits.proofs.BitLaws.{bit-zero}
use Rattle.known_bits.proofs.Between.{leading, leading_below, mask_lt, between_contains, between_knows, common_one, known_is}
use Rattle.known_bits.proofs.Bits.between.Goals as goal

pub overflow_shr-unknown : goal.overflow_shr-unknown
overflow_shr-unknown c = leading_below c.args.low c.args.high c.if-low-high.false (search rules) (search rules)

pub returns-clause-contains : goal.returns-clause-contains
returns-clause-contains c = between_contains _ c.args.low c.args.high _ (leading c.args.low c.args.high c.if-low-high.false (search rules) (search rules)) (search rules) (search rules) (mask_lt _) refl refl

pub returns-clause-knows : goal.returns-clause-knows
returns-clause-knows c = between_knows c.args.low c.args.high _ (leading c.args.low c.args.high c.if-low-high.false (search rules) (search rules))

pub returns-then-low-high-clause-knows : goal.returns-then-low-high-clause-knows
returns-then-low-high-clause-knows c = λ k e. ap (λ n. bit n k) c.constant.ensures.is.1 ∙ bit-zero k

pub returns-then-low-high-clause-rule : goal.returns-then-low-high-clause-rule
returns-then-low-high-clause-rule c = known_is c.constant.result c.args.low c.constant.ensures.is ∙ sym (common_one c.args.low c.args.high (search rules) c.if-low-high.true)
