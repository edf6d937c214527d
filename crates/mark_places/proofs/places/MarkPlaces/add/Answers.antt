use Rattle.std.proofs.Common.{◌≡◌, ◌^◌, ◌++◌, ◌∷◌, [], All, map, drop, length, subst, sym, ap, ◌∙◌, arith}
use Rattle.std.specs.List.{flat_map}
use Rattle.std.specs.List.Sorted.{IsPermutation}
use Rattle.std.proofs.lemmas.List.{length-map}
use Rattle.std.proofs.lemmas.List.Sorted.{IsPermutation-map, length_permutation}
use Rattle.mark_places.specs.Places.{AreMarkPlaces}
use Rattle.mark_places.specs.Ranks.{mark_raised, place_of, IsBelow}
use Rattle.mark_places.proofs.Placing.{places_more}
use Rattle.mark_places.proofs.Raising.{take_first, marks_same}
use Rattle.mark_places.proofs.Ranks.{settled_fit, added_fit}
use Rattle.mark_places.proofs.places.MarkPlaces.add.Goals as goal

pub raise-requires : goal.raise-requires
raise-requires c =
    let p = c.self.inside.pending in
    subst (λ bs. All (λ m. IsBelow (2 ^ 31) (mark_raised p.from p.by m)) (flat_map (λ b. b) bs)) (sym c.deref_mut.ensures.value) c.self.invariant.1

pub invariant_of-self : goal.invariant_of-self
invariant_of-self c =
    let p = c.self.inside.pending in
    let none = c.none-self-inside.result in
    let blocks = c.self.inside.blocks.items in
    let marks = flat_map (λ b. b) blocks in
    let f = mark_raised none.from none.by in
    let items = take_first c.self.inside.blocks.len c.raise.new.blocks (drop (length c.raise.new.blocks) blocks) (omega arith) in
    let settled = c.raise.ensures ∙ ap (λ bs. map (mark_raised p.from p.by) (flat_map (λ b. b) bs)) c.deref_mut.ensures.value in
    let kept = c.in_err-add.ensures.err ∙ ap (flat_map (λ b. b)) items ∙ settled in (
      c.self.invariant.0 ∙ sym (ap length kept ∙ length-map marks (mark_raised p.from p.by)),
      subst (All (λ m. IsBelow (2 ^ 31) (f m))) (sym kept) (settled_fit none.from none.by p.from p.by c.none-self-inside.ensures marks c.self.invariant.1),
    )

pub invariant_of-self-2 : goal.invariant_of-self-2
invariant_of-self-2 c =
    let p = c.self.inside.pending in
    let none = c.none-self-inside.result in
    let blocks = c.self.inside.blocks.items in
    let marks = flat_map (λ b. b) blocks in
    let mark = c.ranked_mark-mark.result in
    let later = flat_map (λ b. b) c.add.new.blocks.items in
    let items = take_first c.self.inside.blocks.len c.raise.new.blocks (drop (length c.raise.new.blocks) blocks) (omega arith) in
    let settled = c.raise.ensures ∙ ap (λ bs. map (mark_raised p.from p.by) (flat_map (λ b. b) bs)) c.deref_mut.ensures.value in
    let same = ap (flat_map (λ b. b)) items ∙ settled in
    let added = subst (λ ms. IsPermutation (mark ∷ ms) later) same c.in_ok-add.ensures.ok in
    let size = length_permutation (mark ∷ map (mark_raised p.from p.by) marks) later added in
    let was = c.self.invariant.0 in (
      omega (arith, size, was, length-map marks (mark_raised p.from p.by)),
      added_fit none.from none.by p.from p.by c.none-self-inside.ensures marks later mark c.ranked_mark-mark.ensures.below c.self.invariant.1 added,
    )

pub returns : goal.returns
returns c =
    λ operations are.
    let es = c.args.sequence.now.elements in
    let o = c.args.operation.now in
    let p = c.self.inside.pending in
    let none = c.none-self-inside.result in
    let blocks = c.self.inside.blocks.items in
    let marks = flat_map (λ b. b) blocks in
    let mark = c.ranked_mark-mark.result in
    let old = map (mark_raised p.from p.by) marks in
    let later = flat_map (λ b. b) c.add.new.blocks.items in
    let items = take_first c.self.inside.blocks.len c.raise.new.blocks (drop (length c.raise.new.blocks) blocks) (omega arith) in
    let settled = c.raise.ensures ∙ ap (λ bs. map (mark_raised p.from p.by) (flat_map (λ b. b) bs)) c.deref_mut.ensures.value in
    let added = subst (λ ms. IsPermutation (mark ∷ ms) later) (ap (flat_map (λ b. b)) items ∙ settled) c.in_ok-add.ensures.ok in
    let same = marks_same none.from none.by c.none-self-inside.ensures later in
    let count = c.self.invariant.0 in
    let index = c.ranked_mark-mark.ensures.index in
    let at : mark.index ≡ length (map place_of old) = omega (arith, count, index, length-map old place_of, length-map marks (mark_raised p.from p.by)) in
    subst (λ ms. AreMarkPlaces es (operations ++ o ∷ []) (map place_of ms)) (sym same)
    (places_more es operations o (map place_of old) (map place_of later) (place_of mark) c.ranked_mark-mark.ensures.place at
    (IsPermutation-map place_of (mark ∷ old) later added)
    (subst (AreMarkPlaces es operations) (sym c.self.view_is) are))
