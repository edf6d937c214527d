use Rattle.std.proofs.Common.{◌∙◌, sym, ap, arith}
use Rattle.std.specs.List.{flat_map, list_all}
use Rattle.mark_places.specs.MarkPlace.{MarkPlace}
use Rattle.mark_places.specs.Uniform.{has_none_between, is_whole}
use Rattle.mark_places.proofs.Uniform.{all_joined, all_whole, uniform_from_whole}
use Rattle.mark_places.proofs.places.MarkPlaces.is_uniform.Goals as goal

pub returns-clause-value : goal.returns-clause-value
returns-clause-value c =
    let blocks = c.self.inside.blocks.items in
    let shift = c.self.inside.pending in
    let P = has_none_between c.lowered.result c.lowered-2.result in
    c.have_none_between.ensures
    ∙ ap (list_all (λ b. list_all P b)) c.deref.ensures.value
    ∙ all_joined P blocks
    ∙ all_whole shift.from shift.by c.args.range _ _ _ _ (omega arith) (omega arith) c.lowered.ensures c.lowered-2.ensures (flat_map (λ b. b) blocks) c.self.invariant.1
    ∙ ap (list_all (λ (p : MarkPlace). is_whole c.args.range p.mark)) c.self.view_is

pub returns-clause-uniform : goal.returns-clause-uniform
returns-clause-uniform c = λ yes es operations are. uniform_from_whole es operations c.args.self.now c.args.range (sym (returns-clause-value c) ∙ yes) are
