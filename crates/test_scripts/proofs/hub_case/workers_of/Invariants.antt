use Rattle.std.proofs.Common.{◌≡◌, ◌+◌, ◌≤◌, vec_len, vec_capacity}
use Rattle.std.specs.Prelude.{map}
use Rattle.test_scripts.specs.Parts.{all_parts}
use Rattle.test_scripts.proofs.hub_case.workers_of.Given as goal

-- what was taken off the shares the workers have
abbrev pub invariant-loop-worker : goal.invariant-loop-worker
invariant-loop-worker g l = record {
  room : 16 ≤ vec_capacity l.workers;
  count : vec_len l.workers ≡ l._worker;
  left : vec_len l.shares + l._worker ≡ vec_len l.fn.shares;
  parts : all_parts l.shares.items + all_parts (map (λ w. w.share) l.workers.items) ≡ all_parts l.fn.shares.items;
}
