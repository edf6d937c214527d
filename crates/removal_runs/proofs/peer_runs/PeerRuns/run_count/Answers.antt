use Rattle.std.proofs.Common.{◌≤◌, ◌^◌, length, subst, rules}
use Rattle.removal_runs.proofs.RunLists.{runs_are_few}
use Rattle.removal_runs.proofs.peer_runs.PeerRuns.run_count.Goals as goal

pub returns : goal.returns
returns c =
    let few = runs_are_few 0 c.self.inside.runs.items (2 ^ 48) c.self.invariant.apart in
    subst (λ v. c.len.result ≤ length v.removals) c.self.view_is (search rules)
