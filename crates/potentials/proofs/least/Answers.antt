use Rattle.std.proofs.Common.{◌≡◌, ◌<◌, ◌^◌, ◌+ℤ◌, ◌≤ℤ◌, fold, unsigned_abs, ◌∙◌, ap, sym, subst, arith, rules, FitsSigned, w64}
use Rattle.std.proofs.lemmas.Int.{to_z-of_z}
use Rattle.std.proofs.lemmas.Grind.{common_steps}
use Rattle.span_context.specs.Context.{text_limit, link_limit}
use Rattle.potentials.specs.Values.{value_at, IsReached}
use Rattle.potentials.specs.Least.{without, at_length, without_lengths}
use Rattle.potentials.proofs.Fields.{totals}
use Rattle.potentials.proofs.Sound.{sound}
use Rattle.potentials.proofs.Reached.{reached}
use Rattle.potentials.proofs.least.Goals as goal

pub returns-clause-rule : goal.returns-clause-rule
returns-clause-rule c =
    let left = c.loop-value.left in
    let whole : c.loop-value.left ≡ fold without c.args.form.now c.args.weighed.now
    = grind (arith, common_steps) in
    let grown = c.loop-value.invariant.1 in
    let few = c.requires.few in
    let room : unsigned_abs c.loop-value.left.constant < 2 ^ 120 = omega arith in
    let per_byte : FitsSigned w64 c.loop-value.left.per_byte = search rules in
    let per_link_byte : FitsSigned w64 c.loop-value.left.per_link_byte = search rules in
    let first : c.at_length.result ≡ at_length left.per_byte c.args.text text_limit
    = c.at_length.ensures.rule ∙ ap (λ z. at_length z c.args.text text_limit) (to_z-of_z w64 left.per_byte per_byte) in
    let second : c.at_length-2.result ≡ at_length left.per_link_byte c.args.link link_limit
    = c.at_length-2.ensures.rule
    ∙ ap (λ z. at_length z c.args.link link_limit) (to_z-of_z w64 left.per_link_byte per_link_byte) in
    totals left.constant c.at_length.result c.at_length-2.result room c.at_length.ensures.small c.at_length-2.ensures.small
    ∙ (ap (λ z. left.constant +ℤ (z +ℤ c.at_length-2.result)) first
    ∙ (ap (λ z. left.constant +ℤ (at_length left.per_byte c.args.text text_limit +ℤ z)) second
    ∙ ap (λ f. without_lengths f c.args.text c.args.link) whole))

pub returns-clause-sound : goal.returns-clause-sound
returns-clause-sound c = λ text link values lengths of.
    subst (λ z. z ≤ℤ value_at c.args.form.now c.args.weighed.now text link values) (sym (returns-clause-rule c))
    (sound c.args.form.now c.args.weighed.now c.args.text c.args.link text link values lengths of)

pub returns-clause-reached : goal.returns-clause-reached
returns-clause-reached c = λ free text_fits link_fits.
    subst (λ z. IsReached c.args.form.now c.args.weighed.now c.args.text c.args.link z) (sym (returns-clause-rule c))
    (reached c.args.form.now c.args.weighed.now c.args.text c.args.link free text_fits link_fits)
