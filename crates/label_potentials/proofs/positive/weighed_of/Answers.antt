use Rattle.std.proofs.Common.{◌≡◌, pos, FitsSigned, to_z, of_z, w32, sym, subst, rules, arith}
use Rattle.std.proofs.lemmas.Int.{to_z-of_z, ints}
use Rattle.potentials.specs.declared.Weighed.{Weighed}
use Rattle.label_potentials.specs.Weights.{weighed_as, Weighs}
use Rattle.label_potentials.proofs.Weighing.{weighs, weighs_nothing}
use Rattle.label_potentials.proofs.positive.weighed_of.Goals as goal

pub returns-then-term-eq0-clause-sound : goal.returns-then-term-eq0-clause-sound
returns-then-term-eq0-clause-sound c =
    let none : c.args.term.now.weight ≡ pos 0 = omega (arith, ints, c.if-term-eq0.true) in
    subst (λ (w : Weighed). Weighs c.args.state.now c.args.term.now w) (sym c.nothing.ensures)
    (weighs_nothing c.args.state.now c.args.term.now none)

pub returns-clause-sound : goal.returns-clause-sound
returns-clause-sound c =
    let fits : FitsSigned w32 c.args.term.now.weight = search rules in
    let q = c.in_ok-quantity.quantity in
    subst (λ z. Weighs c.args.state.now c.args.term.now (weighed_as z q)) (sym (to_z-of_z w32 c.args.term.now.weight fits))
    (weighs c.args.state.now c.args.term.now q c.in_ok-quantity.ensures.sound)
