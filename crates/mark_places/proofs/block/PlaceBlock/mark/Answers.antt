use Rattle.std.proofs.Common.{◌≡◌, ℕ, ◌+◌, ◌<◌, ◌≤◌, Some, get_or, length, ap, ◌∙◌, arith}
use Rattle.std.specs.List.{slice_get}
use Rattle.std.specs.Option.{option_map}
use Rattle.std.proofs.lemmas.Option.{slice_get-map}
use Rattle.mark_places.specs.Blocks.{named}
use Rattle.mark_places.specs.Ranks.{mark_raised, placed}
use Rattle.mark_places.specs.declared.ranked.RankedMark.{RankedMark}
use Rattle.mark_places.proofs.Blocks.{ranked_size, block_read, starts_low, ends_low}
use Rattle.mark_places.proofs.block.PlaceBlock.mark.Goals as goal

pub index-name-requires : goal.index-name-requires
index-name-requires c =
    let b = c.self.inside in
    let size = ranked_size b.offset b.names.items b.starts.items b.ends.items c.self.invariant.starts_sized c.self.invariant.ends_sized in
    omega (arith, size, ap length c.self.view_is)

pub index-requires : goal.index-requires
index-requires c =
    let b = c.self.inside in
    let size = ranked_size b.offset b.names.items b.starts.items b.ends.items c.self.invariant.starts_sized c.self.invariant.ends_sized in
    omega (arith, size, ap length c.self.view_is, c.self.invariant.starts_sized)

pub index-requires-2 : goal.index-requires-2
index-requires-2 c =
    let b = c.self.inside in
    let size = ranked_size b.offset b.names.items b.starts.items b.ends.items c.self.invariant.starts_sized c.self.invariant.ends_sized in
    omega (arith, size, ap length c.self.view_is, c.self.invariant.ends_sized)

pub overflow_add-self-inside : goal.overflow_add-self-inside
overflow_add-self-inside c =
    let b = c.self.inside in
    let i = c.args.at in
    let s = c.index.result.now in
    let size = ranked_size b.offset b.names.items b.starts.items b.ends.items c.self.invariant.starts_sized c.self.invariant.ends_sized in
    let within : i < length b.starts.items = omega (arith, size, ap length c.self.view_is, c.self.invariant.starts_sized) in
    let low : b.offset + get_or b.starts.items i s ≤ b.greatest = starts_low b.offset b.least b.greatest b.names.items b.starts.items b.ends.items c.self.invariant.starts_sized c.self.invariant.ends_sized c.self.invariant.bounded.within i s within in
    let below = c.self.invariant.bounded.below in
    let is = c.index.ensures in
    omega (arith, low, below, is)

pub overflow_add-self-inside-2 : goal.overflow_add-self-inside-2
overflow_add-self-inside-2 c =
    let b = c.self.inside in
    let i = c.args.at in
    let e = c.index-2.result.now in
    let size = ranked_size b.offset b.names.items b.starts.items b.ends.items c.self.invariant.starts_sized c.self.invariant.ends_sized in
    let within : i < length b.ends.items = omega (arith, size, ap length c.self.view_is, c.self.invariant.ends_sized) in
    let low : b.offset + get_or b.ends.items i e ≤ b.greatest = ends_low b.offset b.least b.greatest b.names.items b.starts.items b.ends.items c.self.invariant.starts_sized c.self.invariant.ends_sized c.self.invariant.bounded.within i e within in
    let below = c.self.invariant.bounded.below in
    let is = c.index-2.ensures in
    omega (arith, low, below, is)

pub returns : goal.returns
returns c =
    let b = c.self.inside in
    let i = c.args.at in
    let f = mark_raised c.args.shift.from c.args.shift.by in
    let m : RankedMark = named c.index-name.result.now (b.offset + c.index.result.now) (b.offset + c.index-2.result.now) in
    let at : slice_get c.args.self.now i ≡ Some m =
    block_read b.offset b.least b.greatest b.names.items b.starts.items b.ends.items i _ _ _ c.args.self.now c.self.invariant c.self.view_is c.requires c.index-name.ensures c.index.ensures c.index-2.ensures in (
      f m,
      slice_get-map f c.args.self.now i ∙ ap (option_map f) at,
      ap (λ (x : ℕ). record (placed (f m)) { start = x; end = c.place_of-2.result }) c.place_of.ensures
          ∙ ap (λ (x : ℕ). record (placed (f m)) { end = x }) c.place_of-2.ensures,
    )
