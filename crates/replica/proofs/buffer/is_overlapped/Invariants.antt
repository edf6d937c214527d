use Rattle.std.proofs.Common.{◌≡◌, ◌<◌, ℕ, Some}
use Rattle.std.specs.List.{slice_get}
use Rattle.replica.specs.Messages.{Message, Overlap}
use Rattle.replica.proofs.buffer.is_overlapped.Given as goal

abbrev pub invariant-loop-index : goal.invariant-loop-index
invariant-loop-index l = (k : ℕ) (y : Message) → k < l.index → slice_get l.messages k ≡ Some y → Overlap y l.message → ⊥
