use Rattle.std.proofs.Common.{◌≤◌, ◌^◌, length, subst, rules}
use Rattle.removal_runs.proofs.RangeLists.{ranges_are_few}
use Rattle.removal_runs.proofs.peer_ranges.PeerRanges.range_count.Goals as goal

pub returns : goal.returns
returns c =
    let few = ranges_are_few 0 c.self.inside.ranges.items (2 ^ 48) c.self.invariant in
    subst (λ v. c.len.result ≤ length v.counters) c.self.view_is (search rules)
