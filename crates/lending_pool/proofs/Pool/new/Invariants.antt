use Rattle.std.proofs.Common.{◌≡◌, ◌+◌, vec_len, length}
use Rattle.std.specs.Vec.Iter.{into_iter_items}
use Rattle.lending_pool.proofs.Pool.new.Given as goal

-- those in their places and those that are left are all
abbrev pub invariant-loop-value : goal.invariant-loop-value
invariant-loop-value g l = vec_len l.places + length (into_iter_items l.value-iterator) ≡ length (into_iter_items l.initial.value-iterator)
