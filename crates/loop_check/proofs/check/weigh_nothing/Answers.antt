use Rattle.std.proofs.Common.{◌≡◌, ◌<◌, pos, length, refl, rules, arith}
use Rattle.std.proofs.lemmas.Bool.{false≢true}
use Rattle.std.proofs.lemmas.Int.{ints}
use Rattle.loop_check.proofs.Bounds.{none_weigh, more_weigh, weighs_nothing, weigh_nothing}
use Rattle.loop_check.proofs.check.weigh_nothing.Goals as goal

pub loop-i-init : goal.loop-i-init
loop-i-init c = none_weigh c.args.terms.now

pub loop-i-preserved : goal.loop-i-preserved
loop-i-preserved c =
    let term = c.term_at-term.result in
    let nothing : c.term_at-term.result.weight ≡ pos 0 = omega (arith, ints, c.if-term-ne0.false) in
    more_weigh c.args.terms.now c.loop-i.i term c.loop-i.invariant c.term_at-term.ensures nothing

pub returns-then-term-ne0 : goal.returns-then-term-ne0
returns-then-term-ne0 c = (
  λ yes. absurd (false≢true yes),
  λ less.
      let eight : length c.args.terms.now ≡ 8 = search rules in
      let below : c.loop-i.i < length c.args.terms.now = omega (arith, c.loop-i-test.true) in
      let nothing : c.term_at-term.result.weight ≡ pos 0
      = weighs_nothing c.args.terms.now c.loop-i.i c.term_at-term.result less below c.term_at-term.ensures in
      absurd (omega (arith, ints, c.if-term-ne0.true)),
)

pub returns : goal.returns
returns c =
    let eight : length c.args.terms.now ≡ 8 = search rules in (
      λ yes. weigh_nothing c.args.terms.now
          (λ k below none. c.loop-i.invariant k (omega (arith, c.loop-i-test.false)) none),
      λ less. refl,
    )
