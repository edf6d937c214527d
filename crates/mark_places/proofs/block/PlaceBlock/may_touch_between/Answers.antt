use Rattle.std.proofs.Common.{arith}
use Rattle.mark_places.proofs.Blocks.{block_between}
use Rattle.mark_places.proofs.block.PlaceBlock.may_touch_between.Goals as goal

pub returns : goal.returns
returns c =
    λ no.
    let b = c.self.inside in
    block_between c.args.shift.from c.args.shift.by c.args.low c.args.high _ _ _ _ (omega arith) (omega arith) c.lowered-starts_below.ensures c.lowered-ends_from.ensures
    b.offset _ _ b.names.items b.starts.items b.ends.items c.deref.result.now c.deref-2.result.now c.args.self.now c.self.view_is c.requires
    (omega arith) (omega arith) c.deref.ensures.value c.deref-2.ensures.value (c.is_any_between.ensures no)
