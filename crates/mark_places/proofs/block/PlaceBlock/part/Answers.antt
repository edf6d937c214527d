use Rattle.std.proofs.Common.{◌-◌, ◌≤◌, ◌^◌, All, take, drop, length, sym, subst, ap, ◌∙◌, arith, rules}
use Rattle.std.proofs.lemmas.Result.{IfOk-weaker}
use Rattle.mark_places.specs.Ranks.{IsBelow}
use Rattle.mark_places.proofs.Blocks.{ranked_size, ranked_part, copied_marks, part_below}
use Rattle.mark_places.proofs.block.PlaceBlock.part.Goals as goal

pub offset_bounds-deref-first : goal.offset_bounds-deref-first
offset_bounds-deref-first c =
    let b = c.self.inside in
    let size = ranked_size b.offset b.names.items b.starts.items b.ends.items c.self.invariant.starts_sized c.self.invariant.ends_sized in
    let within : c.args.first ≤ length c.deref.result.now = omega (arith, size, ap length c.self.view_is, ap length c.deref.ensures.value, c.requires.0, c.requires.1) in
    search rules

pub slice_bounds-names-end : goal.slice_bounds-names-end
slice_bounds-names-end c =
    let b = c.self.inside in
    let size = ranked_size b.offset b.names.items b.starts.items b.ends.items c.self.invariant.starts_sized c.self.invariant.ends_sized in
    let within : c.args.last ≤ length c.deref.result.now = omega (arith, size, ap length c.self.view_is, ap length c.deref.ensures.value, c.requires.1) in
    let order : c.args.first ≤ c.args.last = omega (arith, c.requires.0) in
    search rules

pub of_lists-requires-clause-below : goal.of_lists-requires-clause-below
of_lists-requires-clause-below c =
    let b = c.self.inside in
    let first = c.args.first in
    let count = c.args.last - c.args.first in
    let same = copied_marks b.offset (take count (drop first b.names.items)) _ (take count (drop first b.starts.items)) _ (take count (drop first b.ends.items)) _
    (ap (λ xs. take count (drop first xs)) c.deref.ensures.value) (ap (λ xs. take count (drop first xs)) c.deref-2.ensures.value) (ap (λ xs. take count (drop first xs)) c.deref-3.ensures.value) in
    subst (All (IsBelow (2 ^ 31))) (sym same) (part_below b.offset b.least b.greatest b.names.items b.starts.items b.ends.items first count c.self.invariant)

pub returns : goal.returns
returns c =
    let b = c.self.inside in
    let first = c.args.first in
    let count = c.args.last - c.args.first in
    let same = copied_marks b.offset (take count (drop first b.names.items)) _ (take count (drop first b.starts.items)) _ (take count (drop first b.ends.items)) _
    (ap (λ xs. take count (drop first xs)) c.deref.ensures.value) (ap (λ xs. take count (drop first xs)) c.deref-2.ensures.value) (ap (λ xs. take count (drop first xs)) c.deref-3.ensures.value) in
    let part = ranked_part b.offset b.names.items b.starts.items b.ends.items first count c.self.invariant.starts_sized c.self.invariant.ends_sized in
    IfOk-weaker c.of_lists.result _ _ (λ block is. is ∙ same ∙ part ∙ ap (λ ms. take count (drop first ms)) c.self.view_is) c.of_lists.ensures
