use Rattle.step_lines.proofs.Samples.{first-told, both-told, jump-told, store-told}
use Rattle.step_lines.proofs.told_runs.Goals as goal

pub returns : goal.returns
returns c = record { first = first-told; both = both-told; jump = jump-told; store = store-told }
