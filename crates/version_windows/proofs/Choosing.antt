-- A window by chosen marks is the window by all of them.
use Rattle.std.proofs.Common.{ℕ, ◌+◌, ◌-◌, ◌<◌, ◌≤◌, List, drop, refl, sym, ◌∙◌, arith}
use Rattle.std.specs.List.{slice_range, Contains}
use Rattle.change_ops.specs.declared.id.OpId.{OpId}
use Rattle.change_ops.specs.declared.operation.Op.{Op}
use Rattle.char_sequence.specs.declared.sequence.Element.{Element}
use Rattle.char_sequence.specs.Order.{IsAt, Shows}
use Rattle.mark_anchors.specs.Format.{IsFormat}
use Rattle.mark_anchors.specs.Formatting.{Format}
use Rattle.mark_anchors.specs.Marks.{AreMarks}
use Rattle.span_flatten.specs.Spans.{Shown}
use Rattle.span_flatten.specs.Taken.{AreDrawn, element_of}
use Rattle.span_flatten.specs.Window.{Window, IsFlattened}
use Rattle.span_flatten.proofs.Showing.{stood}
use Rattle.version_laws.proofs.Rising.{get_drop, get_take}

-- each character that a window shows stands at a place in it
shown_within : (es : List Element) (low high : ℕ) (shown : List Shown) → AreDrawn (slice_range es low high) shown → (s : Shown) → Contains shown s
    → (place : ℕ) × IsAt es s.id place × (low ≤ place) × (place < high)
shown_within es low high shown drawn s is =
    let r = stood (slice_range es low high) shown drawn s is in
    let t = get_take (high - low) (drop low es) r.0 (element_of s) r.1 in
    let less : r.0 < high - low = t.0 in
    (low + r.0, (element_of s, sym (get_drop low es r.0) ∙ t.1, refl), omega arith, omega arith)

-- chosen marks give the characters from `low` up to `high` the formats that the operations give
abbrev pub GiveFormats : List Element → ℕ → ℕ → List Op → List Op → Type 0
GiveFormats es low high ops chosen =
    (others : List Op) × Shows es others × AreMarks others chosen
    × ((e : OpId) (place : ℕ) (f : Format) → IsAt es e place → low ≤ place → place < high → IsFormat others e f → IsFormat ops e f)

pub flattened_by_all : (es : List Element) (marks chosen : List Op) (low high : ℕ) (window : Window)
    → ((ops : List Op) → Shows es ops → AreMarks ops marks → GiveFormats es low high ops chosen)
    → IsFlattened es chosen low high window → IsFlattened es marks low high window
flattened_by_all es marks chosen low high window give flat = record {
  shown = flat.shown;
  drawn = flat.drawn;
  formatted =
      λ ops shows are s is.
      let g = give ops shows are in
      let at = shown_within es low high flat.shown flat.drawn s is in
      g.3 s.id at.0 s.format at.1 at.2 at.3 (flat.formatted g.0 g.1 g.2 s is);
  cut = flat.cut;
}
