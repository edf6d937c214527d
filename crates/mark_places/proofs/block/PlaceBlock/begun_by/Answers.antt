use Rattle.std.proofs.Common.{length, ap, arith}
use Rattle.mark_places.proofs.Blocks.{ranked_size}
use Rattle.mark_places.proofs.block.PlaceBlock.begun_by.Goals as goal

pub returns : goal.returns
returns c =
    let b = c.self.inside in
    let size = ranked_size b.offset b.names.items b.starts.items b.ends.items c.self.invariant.starts_sized c.self.invariant.ends_sized in
    omega (arith, size, ap length c.self.view_is, c.self.invariant.starts_sized, ap length c.deref.ensures.value, c.partition_point.ensures.bound)
