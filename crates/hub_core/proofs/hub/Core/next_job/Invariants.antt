use Rattle.std.proofs.Common.{◌≡◌, ℕ, ◌<◌, Some, None}
use Rattle.std.specs.Prelude.{slice_get}
use Rattle.hub_core.specs.Machine.{FindsAt}
use Rattle.hub_core.specs.Opened.{open_ids}
use Rattle.hub_core.proofs.hub.Core.next_job.Given as goal

abbrev pub invariant-loop-id : goal.invariant-loop-id
invariant-loop-id g l = (k i : ℕ) → k < l.id-index → slice_get (open_ids 0 l.self.subscribers) k ≡ Some i → FindsAt l.self i None
