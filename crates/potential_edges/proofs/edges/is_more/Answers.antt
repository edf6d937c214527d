use Rattle.std.proofs.Common.{◌↔◌, pos, ◌≤ℤ◌, IsTrue, FitsSigned, w32, w64, subst, rules}
use Rattle.std.proofs.lemmas.Int.{to_z-of_z}
use Rattle.std.specs.Int.{w128}
use Rattle.potentials.specs.declared.Form.{Form}
use Rattle.potentials.specs.Least.{least_of}
use Rattle.potential_edges.proofs.Rests.{form_with_is, less_is}
use Rattle.potential_edges.proofs.edges.is_more.Goals as goal

pub returns : goal.returns
returns c =
    let p = c.args.first.now in
    let q = c.args.second.now in
    let d = c.args.difference.now in
    let constant : FitsSigned w128 c.args.difference.now.constant = search rules in
    let first : FitsSigned w32 c.args.first.now.per_byte = search rules in
    let second : FitsSigned w32 c.args.second.now.per_byte = search rules in
    let first_link : FitsSigned w32 c.args.first.now.per_link_byte = search rules in
    let second_link : FitsSigned w32 c.args.second.now.per_link_byte = search rules in
    let less : FitsSigned w64 c.byte_less.result = search rules in
    let less_link : FitsSigned w64 c.byte_less-2.result = search rules in
    subst (λ (f : Form). IsTrue c.is_above.result
    ↔ (pos 1 ≤ℤ least_of f d.weighed c.args.state.now.bounds.text c.args.state.now.bounds.link))
    (form_with_is p q d.constant _ _ _ (to_z-of_z w128 d.constant constant)
    (less_is c.byte_less.result p.per_byte q.per_byte first second less c.byte_less.ensures)
    (less_is c.byte_less-2.result p.per_link_byte q.per_link_byte first_link second_link less_link
    c.byte_less-2.ensures))
    c.is_above.ensures
