use Rattle.std.proofs.Common.{◌≡◌, ◌+◌, ◌*◌, ◌^◌, ◌≤◌, fold, take, unsigned_abs}
use Rattle.potentials.specs.Least.{without}
use Rattle.potentials.proofs.least.Given as goal

-- the first values are taken away; each adds little to the constant
abbrev pub invariant-loop-value : goal.invariant-loop-value
invariant-loop-value l =
    (l.left ≡ fold without l.form (take l.value-index l.weighed))
    × (unsigned_abs l.left.constant ≤ 2 ^ 100 + l.value-index * 2 ^ 95)
