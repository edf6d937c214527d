use Rattle.std.proofs.Common.{refl, arith, rules}
use Rattle.known_bits.proofs.BitLaws.{word_bits}
use Rattle.known_bits.proofs.Members.{Fit, fit}
use Rattle.known_bits.proofs.Bitwise.{meet_apart, meet_contains, meet_only, met, no_clash}
use Rattle.known_bits.proofs.Bits.meet.Goals as goal

pub returns-then-clash-ne0-clause-none : goal.returns-then-clash-ne0-clause-none
returns-then-clash-ne0-clause-none c =
    let fa : Fit c.args.self = fit c.args.self (search rules) (search rules) in
    let fb : Fit c.args.other = fit c.args.other (search rules) (search rules) in
    (λ _ x left right. c.if-clash-ne0.true (no_clash c.args.self c.args.other _ (record { fits = grind (arith, word_bits); bits = λ k below. grind (arith, word_bits) }) x left right), λ _. refl)

pub returns-then-clash-ne0-clause-contains : goal.returns-then-clash-ne0-clause-contains
returns-then-clash-ne0-clause-contains c = λ x left right.
    let fa : Fit c.args.self = fit c.args.self (search rules) (search rules) in
    let fb : Fit c.args.other = fit c.args.other (search rules) (search rules) in
    absurd (c.if-clash-ne0.true (no_clash c.args.self c.args.other _ (record { fits = grind (arith, word_bits); bits = λ k below. grind (arith, word_bits) }) x left right))

pub invariant_of-result : goal.invariant_of-result
invariant_of-result c =
    let fa : Fit c.args.self = fit c.args.self (search rules) (search rules) in
    let fb : Fit c.args.other = fit c.args.other (search rules) (search rules) in
    record { disjoint = meet_apart c.args.self c.args.other _ _ (record { fits = grind (arith, word_bits); bits = λ k below. grind (arith, word_bits) }) (record { fits = grind (arith, word_bits); bits = λ k below. grind (arith, word_bits) }) }

pub returns-clause-none : goal.returns-clause-none
returns-clause-none c = (
  λ e. absurd (cc),
  λ none.
      let fa : Fit c.args.self = fit c.args.self (search rules) (search rules) in
      let fb : Fit c.args.other = fit c.args.other (search rules) (search rules) in
      let both = met c.args.self c.args.other _ fa fb (record { fits = grind (arith, word_bits); bits = λ k below. grind (arith, word_bits) }) c.if-clash-ne0.false in
      absurd (none both.0 both.1.0 both.1.1),
)

pub returns-clause-contains : goal.returns-clause-contains
returns-clause-contains c = λ x left right.
    let fa : Fit c.args.self = fit c.args.self (search rules) (search rules) in
    let fb : Fit c.args.other = fit c.args.other (search rules) (search rules) in
    (_, refl, meet_contains c.args.self c.args.other _ (record { fits = grind (arith, word_bits); bits = λ k below. grind (arith, word_bits) }) (record { fits = grind (arith, word_bits); bits = λ k below. grind (arith, word_bits) }) x left right)

pub returns-clause-only : goal.returns-clause-only
returns-clause-only c = λ x inside.
    let fa : Fit c.args.self = fit c.args.self (search rules) (search rules) in
    let fb : Fit c.args.other = fit c.args.other (search rules) (search rules) in
    meet_only c.args.self c.args.other _ _ fa fb (record { fits = grind (arith, word_bits); bits = λ k below. grind (arith, word_bits) }) c.if-clash-ne0.false (record { fits = grind (arith, word_bits); bits = λ k below. grind (arith, word_bits) }) (record { fits = grind (arith, word_bits); bits = λ k below. grind (arith, word_bits) }) x inside
