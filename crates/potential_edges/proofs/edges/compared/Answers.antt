use Rattle.std.proofs.Common.{ℤ, ◌<◌, ◌+ℤ◌, List, [], ◌∷◌, get_or, FitsSigned, to_z, of_z, w64, refl, sym, ap, ◌∙◌, rules, arith}
use Rattle.std.specs.Int.{w128}
use Rattle.potentials.specs.declared.Weighed.{Weighed}
use Rattle.label_potentials.specs.declared.potential.Term.{Term}
use Rattle.potential_edges.specs.declared.edges.Difference.{Difference}
use Rattle.potential_edges.specs.Edges.{rest_in}
use Rattle.potential_edges.proofs.Rests.{AreEight, reached_none, reached_more, reached_all, unreached, start_is, start_small, sum_fits}
use Rattle.potential_edges.proofs.edges.compared.Goals as goal

pub loop-i-init : goal.loop-i-init
loop-i-init c =
    let p = c.args.first.now in
    let q = c.args.second.now in
    let start = c.constant_less-constant.result in
    let none : Weighed = c.nothing-weighed.result in
    let weighed : List Weighed = none ∷ none ∷ none ∷ none ∷ none ∷ none ∷ none ∷ none ∷ [] in
    let one : FitsSigned w64 c.args.first.now.constant = search rules in
    let other : FitsSigned w64 c.args.second.now.constant = search rules in
    reached_none c.args.state.now c.args.insn.now c.args.behind.now p q (to_z w128 (of_z w128 start)) weighed refl
    (start_is start p.constant q.constant one other c.constant_less-constant.ensures.small
    c.constant_less-constant.ensures.value)
    (start_small start c.constant_less-constant.ensures.small)

pub loop-i-preserved : goal.loop-i-preserved
loop-i-preserved c =
    let a = c.args.state.now in
    let insn = c.args.insn.now in
    let behind = c.args.behind.now in
    let p = c.args.first.now in
    let q = c.args.second.now in
    let i = c.loop-i.i in
    let before : Term = c.term_at-before.result in
    let after : Term = c.term_at-after.result in
    let left = c.in_ok-rest.rest in
    let constant : ℤ = to_z w128 c.loop-i.constant-bits in
    let below : c.loop-i.i < 8 = c.loop-i-test.true in
    let eight : AreEight c.args.first.now c.args.second.now
    = record { first = c.has_eight.ensures; second = c.has_eight-2.ensures } in
    reached_more a insn behind p q i constant (to_z w128 (of_z w128 (constant +ℤ to_z w128 (of_z w128 left.more))))
    c.loop-i.weighed left before after eight below c.loop-i.invariant
    (ap (λ (t : Term). rest_in a insn behind (t, get_or q.less i after)) (sym (c.term_at-before.ensures before))
    ∙ ap (λ (t : Term). rest_in a insn behind (before, t)) (sym (c.term_at-after.ensures after))
    ∙ sym c.rest_of.ensures.rule
    ∙ c.in_ok-rest.was)
    (sum_fits constant left.more i c.loop-i.invariant.small below c.in_ok-rest.ensures.small)
    c.in_ok-rest.ensures.small

pub returns-in_err-rest-clause-unknown : goal.returns-in_err-rest-clause-unknown
returns-in_err-rest-clause-unknown c = λ _ rests known.
    let a = c.args.state.now in
    let insn = c.args.insn.now in
    let behind = c.args.behind.now in
    let p = c.args.first.now in
    let q = c.args.second.now in
    let i = c.loop-i.i in
    let before : Term = c.term_at-before.result in
    let after : Term = c.term_at-after.result in
    let below : c.loop-i.i < 8 = c.loop-i-test.true in
    let eight : AreEight c.args.first.now c.args.second.now
    = record { first = c.has_eight.ensures; second = c.has_eight-2.ensures } in
    unreached a insn behind p q i before after rests eight below
    (ap (λ (t : Term). rest_in a insn behind (t, get_or q.less i after)) (sym (c.term_at-before.ensures before))
    ∙ ap (λ (t : Term). rest_in a insn behind (before, t)) (sym (c.term_at-after.ensures after))
    ∙ sym c.rest_of.ensures.rule
    ∙ c.in_err-rest.was) known

pub returns-clause-known : goal.returns-clause-known
returns-clause-known c =
    let difference : Difference
    = record { constant = to_z w128 c.loop-i.constant-bits; weighed = c.loop-i.weighed } in
    let eight : AreEight c.args.first.now c.args.second.now
    = record { first = c.has_eight.ensures; second = c.has_eight-2.ensures } in
    reached_all c.args.state.now c.args.insn.now c.args.behind.now c.args.first.now c.args.second.now c.loop-i.i
    difference eight (omega (arith, c.loop-i-test.false)) c.loop-i.invariant
