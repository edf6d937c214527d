use Rattle.std.proofs.Common.{◌≡◌, ℕ, ◌<◌, Some}
use Rattle.std.specs.Prelude.{slice_get}
use Rattle.hub_core.proofs.hub.take_out.Given as goal

abbrev pub invariant-loop-index : goal.invariant-loop-index
invariant-loop-index l = record {
  same : l.ids ≡ l.initial.ids;
  none : (k : ℕ) → k < l.index → ¬ (slice_get l.ids.items k ≡ Some l.fn.id);
}
