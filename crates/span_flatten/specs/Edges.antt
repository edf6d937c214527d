-- Windows that begin and end with what stands where they are put.
use Rattle.std.specs.Prelude.{◌≡◌, ◌-◌, ◌<◌, ℕ, List, Some, length, slice_get}
use Rattle.mark_anchors.specs.Formatting.{Format}

-- formats that are put in place of those from `from` up to `to` begin with the one that stands there, unless none
-- stands before them, and end with the one that stands there, unless none stands behind them
pub record KeepEdges (formats : List Format) (from to : ℕ) (new : List Format) : Type 0 where
  pub front : 0 < from
      → (from < to) × ((format : Format) × (slice_get formats from ≡ Some format) × (slice_get new 0 ≡ Some format))
  pub back : to < length formats → (from < to) × ((format : Format) × (slice_get formats (to - 1) ≡ Some format)
      × (slice_get new (length new - 1) ≡ Some format))
