use Rattle.std.proofs.Common.{arith}
use Rattle.change_join.proofs.joint.Joint.can_take.Goals as goal

pub overflow_add-result : goal.overflow_add-result
overflow_add-result c =
    let is = c.requires.1 in
    let most = is.limits.meant in
    omega (arith, is.meant, most, c.operation_count.ensures.limit)
