use Rattle.std.proofs.Common.{◌≡◌, ◌<◌, Some, None, length, get_or, map, sym, ap, ◌∙◌, length-set, take_all, rules, arith}
use Rattle.potentials.specs.declared.Weighed.{Weighed}
use Rattle.label_potentials.specs.declared.potential.Term.{Term}
use Rattle.label_potentials.specs.Weights.{weighed_in}
use Rattle.label_potentials.proofs.Weighing.{known_next, none_unknown}
use Rattle.label_potentials.proofs.positive.weighed_each.Goals as goal

pub loop-i-preserved : goal.loop-i-preserved
loop-i-preserved c =
    let eight : length c.args.terms.now ≡ 8 = search rules in
    let room : length c.loop-i.weighed ≡ 8 = c.loop-i.invariant.long in
    let below : c.loop-i.i < 8 = c.loop-i-test.true in
    let term = c.term_at-term.result in
    record {
      long = length-set c.loop-i.weighed c.loop-i.i c.in_ok-weighed.field-0 ∙ room;
      known = known_next Term Weighed (weighed_in c.args.state.now) c.args.terms.now c.loop-i.weighed c.loop-i.i term
          c.in_ok-weighed.field-0 (omega arith) (omega arith) c.loop-i.invariant.known
          (ap (weighed_in c.args.state.now) (sym (c.term_at-term.ensures term))
          ∙ sym c.weighed_of.ensures.rule
          ∙ c.in_ok-weighed.was);
    }

pub returns-in_err-weighed-clause-unknown : goal.returns-in_err-weighed-clause-unknown
returns-in_err-weighed-clause-unknown c = λ _ weighed known.
    let eight : length c.args.terms.now ≡ 8 = search rules in
    let below : c.loop-i.i < 8 = c.loop-i-test.true in
    let term = c.term_at-term.result in
    let none : weighed_in c.args.state.now (get_or c.args.terms.now c.loop-i.i term) ≡ None
    = ap (weighed_in c.args.state.now) (sym (c.term_at-term.ensures term))
    ∙ sym c.weighed_of.ensures.rule
    ∙ c.in_err-weighed.was in
    none_unknown Term Weighed (weighed_in c.args.state.now) c.args.terms.now weighed c.loop-i.i term (omega arith) known
    none

pub returns-clause-known : goal.returns-clause-known
returns-clause-known c =
    let eight : length c.args.terms.now ≡ 8 = search rules in
    let room : length c.loop-i.weighed ≡ 8 = c.loop-i.invariant.long in
    ap (map (weighed_in c.args.state.now)) (sym (take_all c.loop-i.i c.args.terms.now (omega (arith, c.loop-i-test.false))))
    ∙ c.loop-i.invariant.known
    ∙ ap (map (λ (w : Weighed). Some w)) (take_all c.loop-i.i c.loop-i.weighed (omega (arith, c.loop-i-test.false)))
