use Rattle.std.proofs.Common.{◌+◌, ◌*◌, ◌++◌, All, ◌^◌, length, map, drop, subst, sym, ap, ◌∙◌, arith}
use Rattle.std.specs.List.{flat_map}
use Rattle.std.proofs.lemmas.List.{length-map}
use Rattle.mark_places.specs.Places.{AreMarkPlaces}
use Rattle.mark_places.specs.Shifted.{AreShifted}
use Rattle.mark_places.specs.Ranks.{mark_raised, place_of, IsBelow}
use Rattle.mark_places.proofs.Placing.{far_shifted, places_shifted}
use Rattle.mark_places.proofs.Raising.{take_first, marks_twice}
use Rattle.mark_places.proofs.Ranks.{ranks_fit, joined_fit, places_moved}
use Rattle.mark_places.proofs.places.MarkPlaces.shift.Goals as goal

pub returns-then-place-ge-PLACE_LIMIT : goal.returns-then-place-ge-PLACE_LIMIT
returns-then-place-ge-PLACE_LIMIT c =
    λ front run back operations at many are.
    let r = c.requires in
    let few = r.1.2 in
    let places = c.args.self.now in
    let shifted = far_shifted r.0 r.1.0 places c.args.place c.args.count (omega (arith, few)) r.1.1 in
    places_shifted front run back operations places places
    (subst (λ n. AreShifted (length front) n places places) (sym many) (subst (λ n. AreShifted n c.args.count places places) (sym at) shifted)) are

pub invariant_of-self : goal.invariant_of-self
invariant_of-self c =
    let p = c.self.inside.pending in
    let joined = c.in-Some.joined in
    let marks = flat_map (λ b. b) c.self.inside.blocks.items in
    let from = 2 * c.args.place + 1 in
    let r = c.requires in
    let fit = ranks_fit r.0 r.1.0 (map (mark_raised p.from p.by) marks) from c.args.count (subst (AreMarkPlaces r.0 r.1.0) (sym c.self.view_is) r.1.1) r.1.2 in
    (c.self.invariant.0, joined_fit joined.from joined.by p.from p.by from (2 * c.args.count) c.in-Some.ensures marks fit)

pub returns-in-Some : goal.returns-in-Some
returns-in-Some c =
    λ front run back operations at many are.
    let p = c.self.inside.pending in
    let joined = c.in-Some.joined in
    let marks = flat_map (λ b. b) c.self.inside.blocks.items in
    let from = 2 * c.args.place + 1 in
    subst (λ ms. AreMarkPlaces (front ++ (run ++ back)) operations (map place_of ms)) (sym (marks_twice joined.from joined.by p.from p.by from (2 * c.args.count) c.in-Some.ensures marks))
    (places_moved front run back operations (map (mark_raised p.from p.by) marks) c.args.place c.args.count at many (subst (AreMarkPlaces (front ++ back) operations) (sym c.self.view_is) are))

pub invariant_of-self-2 : goal.invariant_of-self-2
invariant_of-self-2 c =
    let p = c.self.inside.pending in
    let blocks = c.self.inside.blocks.items in
    let marks = flat_map (λ b. b) blocks in
    let from = 2 * c.args.place + 1 in
    let f = mark_raised from (2 * c.args.count) in
    let r = c.requires in
    let items = take_first c.self.inside.blocks.len c.raise.new.blocks (drop (length c.raise.new.blocks) blocks) (omega arith) in
    let settled = c.raise.ensures ∙ ap (λ bs. map (mark_raised p.from p.by) (flat_map (λ b. b) bs)) c.deref_mut.ensures.value in
    let fit = ranks_fit r.0 r.1.0 (map (mark_raised p.from p.by) marks) from c.args.count (subst (AreMarkPlaces r.0 r.1.0) (sym c.self.view_is) r.1.1) r.1.2 in
    let same = ap (flat_map (λ b. b)) items ∙ settled in (
      c.self.invariant.0 ∙ sym (ap length same ∙ length-map marks (mark_raised p.from p.by)),
      subst (All (λ m. IsBelow (2 ^ 31) (f m))) (sym same) fit,
    )

pub returns : goal.returns
returns c =
    λ front run back operations at many are.
    let p = c.self.inside.pending in
    let blocks = c.self.inside.blocks.items in
    let marks = flat_map (λ b. b) blocks in
    let f = mark_raised (2 * c.args.place + 1) (2 * c.args.count) in
    let items = take_first c.self.inside.blocks.len c.raise.new.blocks (drop (length c.raise.new.blocks) blocks) (omega arith) in
    let settled = c.raise.ensures ∙ ap (λ bs. map (mark_raised p.from p.by) (flat_map (λ b. b) bs)) c.deref_mut.ensures.value in
    subst (λ bs. AreMarkPlaces (front ++ (run ++ back)) operations (map place_of (map f (flat_map (λ b. b) bs)))) (sym items)
    (subst (λ ms. AreMarkPlaces (front ++ (run ++ back)) operations (map place_of (map f ms))) (sym settled)
    (places_moved front run back operations (map (mark_raised p.from p.by) marks) c.args.place c.args.count at many (subst (AreMarkPlaces (front ++ back) operations) (sym c.self.view_is) are)))
