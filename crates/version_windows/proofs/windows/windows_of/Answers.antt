use Rattle.std.proofs.Common.{◌≡◌, ◌≤◌, ◌<◌, ◌++◌, ◌∷◌, [], ℕ, List, Some, All, length, eq-eqb, sym, subst, ◌∙◌, arith, ⊎_elim}
use Rattle.std.specs.List.{slice_get}
use Rattle.std.proofs.lemmas.Bool.{cases_lt, eqb-true, false≢true}
use Rattle.std.proofs.lemmas.List.{nil_from_length}
use Rattle.change_ops.specs.Lines.{ops_of_lines}
use Rattle.change_ops.specs.declared.line.Line.{Line}
use Rattle.change_ops.specs.declared.operation.Op.{Op}
use Rattle.char_sequence.specs.Held.{Sequence}
use Rattle.char_sequence.specs.declared.sequence.Element.{Element}
use Rattle.mark_places.specs.PlaceRanges.{AreApart}
use Rattle.mark_places.specs.MarkPlace.{MarkPlace}
use Rattle.mark_places.specs.Places.{AreMarkPlaces}
use Rattle.mark_places.specs.declared.range.PlaceRange.{PlaceRange}
use Rattle.mark_anchors.proofs.Alike.{ok_more}
use Rattle.span_flatten.specs.Version.{Version, spans_of}
use Rattle.version_glyphs.specs.Glyphs.{AreMaximal, glyphs}
use Rattle.version_glyphs.specs.Replacements.{AreReplacements}
use Rattle.version_laws.specs.Ranges.{AreChangedWithin, AreGapped}
use Rattle.version_windows.specs.Edges.{HasKeptEdges}
use Rattle.version_windows.specs.Neighbors.{GiveAllFormats, HasNeighbor, IsLikeNeighbor}
use Rattle.version_windows.specs.Step.{IsStep}
use Rattle.version_windows.specs.Touches.{AllTouchOneOf}
use Rattle.version_windows.specs.declared.windows.Formats.TheVariants.{OfNeighbors}
use Rattle.version_windows.proofs.Edging.{have_neighbors}
use Rattle.version_windows.proofs.windows.windows_of.Goals as goal

-- no window for no range
no_windows : (old new : List Element) (marks : List Op) (olds ranges : List PlaceRange) → ranges ≡ []
    → AreChangedWithin old new olds ranges 0 0 → AreReplacements old new marks olds ranges []
no_windows old new marks [] [] empty changed = tt
no_windows old new marks (o ∷ olds) [] empty changed = absurd changed
no_windows old new marks olds (n ∷ ranges) empty changed = absurd (cc)

pub marked_windows-requires : goal.marked_windows-requires
marked_windows-requires c =
    let ranges : List PlaceRange = c.args.ranges.now in
    let step = c.requires.step.1.1 in
    record {
      some =
          ⊎_elim
          (λ (less : 0 < length ranges). less)
          (λ (le : length ranges ≤ 0).
          let empty : length ranges ≡ 0 = omega arith in
          absurd (false≢true (sym c.if-is_empty.false ∙ c.is_empty.ensures ∙ eq-eqb (length ranges) 0 empty)))
          (cases_lt 0 (length ranges));
      shows = (c.requires.step.0, step.shows_before);
      text = (c.requires.step.0 ++ ops_of_lines c.requires.step.1.0, step.shows, step.marks);
      places = c.requires.places;
      apart = c.requires.apart;
      gapped = c.requires.gapped;
      changed = c.requires.changed;
    }

pub returns-then-is_empty-clause-replaced : goal.returns-then-is_empty-clause-replaced
returns-then-is_empty-clause-replaced c =
    λ olds changed.
    let ranges : List PlaceRange = c.args.ranges.now in
    let empty = nil_from_length ranges (eqb-true (length ranges) 0 (sym c.is_empty.ensures ∙ c.if-is_empty.true)) in
    subst (AreReplacements c.args.before.now.elements c.args.sequence.now.elements c.args.marks.now olds ranges) (sym c.new.ensures.items)
    (no_windows c.args.before.now.elements c.args.sequence.now.elements c.args.marks.now olds ranges empty changed)

-- each range has a neighbor
neighbors : (ops : List Op) (lines : List Line) (previous : Version) (old : List Element) (sequence : Sequence) (marks : List Op) (inner ranges : List PlaceRange) → IsStep ops previous old sequence marks lines
    → AllTouchOneOf sequence (ops_of_lines lines) inner → All (HasKeptEdges sequence.elements inner) ranges → AreMaximal (spans_of previous) → AreApart ranges 0 (length sequence.elements) → AreGapped ranges
    → (places : List MarkPlace) → AreMarkPlaces sequence.elements marks places → All (IsLikeNeighbor places (length sequence.elements)) ranges → (olds : List PlaceRange) → AreChangedWithin old sequence.elements olds ranges 0 0
    → (k : ℕ) (was range : PlaceRange) → slice_get olds k ≡ Some was → slice_get ranges k ≡ Some range → HasNeighbor (glyphs (spans_of previous)) old sequence.elements marks was range
neighbors ops lines previous old sequence marks inner ranges step touched kept maximal apart gapped places placed like olds changed =
    have_neighbors ops (ops_of_lines lines) marks old sequence.elements inner step.shows_before step.accepted step.shows step.marks (touched (ops ++ ops_of_lines lines) step.removals) (spans_of previous) maximal step.version.1.spans
    olds ranges changed apart gapped kept places placed like

pub replacements-requires : goal.replacements-requires
replacements-requires c =
    let old : List Element = c.args.before.now.elements in
    let es : List Element = c.args.sequence.now.elements in
    let marks : List Op = c.args.marks.now in
    let ranges : List PlaceRange = c.args.ranges.now in
    let step = c.requires.step.1.1 in
    let touched = c.requires.step.1.2 in
    let places : List MarkPlace = c.args.places.now in
    let like : All (IsLikeNeighbor places (length es)) ranges =
    subst (λ (end : ℕ). All (IsLikeNeighbor places end) ranges) c.len.ensures.value (c.are_like_neighbors.ensures c.if-not-are_like_neighbors.false) in
    record {
      shows = (c.requires.step.0, step.shows_before);
      apart = c.requires.apart;
      gapped = c.requires.gapped;
      changed = (
        c.requires.changed.0,
        c.requires.changed.1,
        (
          marks,
          neighbors c.requires.step.0 c.requires.step.1.0 c.args.previous.now old c.args.sequence.now marks touched.0 ranges step touched.1 touched.2 c.keeps.ensures.maximal c.requires.apart c.requires.gapped places c.requires.places like
              c.requires.changed.0 c.requires.changed.1,
        ),
      );
    }

pub returns-clause-replaced : goal.returns-clause-replaced
returns-clause-replaced c =
    let old : List Element = c.args.before.now.elements in
    let es : List Element = c.args.sequence.now.elements in
    let marks : List Op = c.args.marks.now in
    let ranges : List PlaceRange = c.args.ranges.now in
    let step = c.requires.step.1.1 in
    let touched = c.requires.step.1.2 in
    let places : List MarkPlace = c.args.places.now in
    let like : All (IsLikeNeighbor places (length es)) ranges =
    subst (λ (end : ℕ). All (IsLikeNeighbor places end) ranges) c.len.ensures.value (c.are_like_neighbors.ensures c.if-not-are_like_neighbors.false) in
    ok_more
    (λ windows. (olds : List PlaceRange) (ms : List Op) → AreChangedWithin old es olds ranges 0 0 → GiveAllFormats (OfNeighbors c.args.previous) old es ms olds ranges
    → AreReplacements old es ms olds ranges windows.items)
    (λ windows. (olds : List PlaceRange) → AreChangedWithin old es olds ranges 0 0 → AreReplacements old es marks olds ranges windows.items)
    c.replacements.result
    (λ windows is olds changed.
    is olds marks changed
    (neighbors c.requires.step.0 c.requires.step.1.0 c.args.previous.now old c.args.sequence.now marks touched.0 ranges step touched.1 touched.2 c.keeps.ensures.maximal c.requires.apart c.requires.gapped places c.requires.places like olds changed))
    c.replacements.ensures
