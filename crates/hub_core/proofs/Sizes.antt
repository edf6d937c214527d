-- The most changes of any size.
use Rattle.std.proofs.Common.{ℕ, ◌≤◌, arith}
use Rattle.change_ops.specs.declared.size.Size.{Size}
use Rattle.change_ops.specs.declared.size.Size.TheVariants.{Small, Large}
use Rattle.change_ops.specs.Sizes.{most_changes}

pub changes_few : (size : Size) → most_changes size ≤ 65536
changes_few Small = omega arith
changes_few Large = omega arith
