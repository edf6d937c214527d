use Rattle.std.proofs.Common.{◌≡◌, ◌+◌}
use Rattle.std.specs.Prelude.{map}
use Rattle.std.specs.Vec.Iter.{into_iter_items}
use Rattle.test_scripts.specs.Parts.{all_parts}
use Rattle.test_scripts.proofs.hub_case.settle_all.Given as goal

-- the shares with those of the workers that are left are all but the spare one
abbrev pub invariant-loop-worker : goal.invariant-loop-worker
invariant-loop-worker g l =
    all_parts l.shares.items + all_parts (map (λ w. w.share) (into_iter_items l.worker-iterator)) + 2 ≡ g.N.Ledger.parts
