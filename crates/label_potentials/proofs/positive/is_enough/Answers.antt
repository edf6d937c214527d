use Rattle.std.proofs.Common.{◌≡◌, ◌↔◌, pos, ◌≤ℤ◌, IsTrue, FitsSigned, to_z, of_z, w32, w64, subst, ◌∙◌, rules}
use Rattle.std.proofs.lemmas.Int.{to_z-of_z}
use Rattle.std.specs.Int.{w128}
use Rattle.potentials.specs.declared.Form.{Form}
use Rattle.potentials.specs.Least.{least_of}
use Rattle.label_potentials.proofs.Weighing.{form_is}
use Rattle.label_potentials.proofs.positive.is_enough.Goals as goal

pub returns : goal.returns
returns c =
    let p = c.args.potential.now in
    let constant : FitsSigned w64 c.args.potential.now.constant = search rules in
    let per_byte : FitsSigned w32 c.args.potential.now.per_byte = search rules in
    let per_link_byte : FitsSigned w32 c.args.potential.now.per_link_byte = search rules in
    let first : FitsSigned w128 c.from.result = search rules in
    let second : FitsSigned w64 c.from-2.result = search rules in
    let third : FitsSigned w64 c.from-3.result = search rules in
    subst (λ (f : Form). IsTrue c.is_above.result
    ↔ (pos 1 ≤ℤ least_of f c.args.weighed.now c.args.state.now.bounds.text c.args.state.now.bounds.link))
    (form_is p _ _ _ (to_z-of_z w128 c.from.result first ∙ c.from.ensures ∙ to_z-of_z w64 p.constant constant)
    (to_z-of_z w64 c.from-2.result second ∙ c.from-2.ensures ∙ to_z-of_z w32 p.per_byte per_byte)
    (to_z-of_z w64 c.from-3.result third ∙ c.from-3.ensures ∙ to_z-of_z w32 p.per_link_byte per_link_byte))
    c.is_above.ensures
