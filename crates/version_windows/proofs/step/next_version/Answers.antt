use Rattle.std.proofs.Common.{◌≡◌, ◌≤◌, ◌++◌, ℕ, List, All, length, sym, ap, subst, ◌∙◌}
use Rattle.std.specs.List.{Contains}
use Rattle.std.proofs.lemmas.List.Elements.{Contains-append_right}
use Rattle.change_ops.specs.Lines.{ops_of_lines}
use Rattle.change_ops.specs.declared.operation.Op.{Op}
use Rattle.char_sequence.specs.declared.sequence.Element.{Element}
use Rattle.mark_places.specs.PlaceRanges.{AreApart}
use Rattle.mark_places.specs.declared.range.PlaceRange.{PlaceRange}
use Rattle.version_glyphs.specs.declared.replacement.Replacement.{Replacement}
use Rattle.span_flatten.specs.Spans.{Span}
use Rattle.span_flatten.specs.Version.{IsVersion, spans_of}
use Rattle.version_glyphs.specs.Glyphs.{glyphs, text_of}
use Rattle.version_glyphs.specs.Replacements.{AreEdged, AreInOrder, HasMaximalSpans, put_all}
use Rattle.version_laws.specs.Ranges.{AreGapped, TouchesOneOf}
use Rattle.version_glyphs.proofs.WindowsMet.{windows_in_order, windows_maximal, text_put}
use Rattle.version_laws.proofs.Ranging.{kept_between}
use Rattle.version_windows.specs.Edges.{HasKeptEdges}
use Rattle.version_windows.proofs.Edging.{windows_edged}
use Rattle.version_windows.proofs.step.next_version.Goals as goal

pub touched-requires : goal.touched-requires
touched-requires c =
    let added : List Op = ops_of_lines c.args.lines.now in
    (c.requires.step.0 ++ added, c.requires.step.1.shows, c.requires.step.1.removals, λ o held. Contains-append_right c.requires.step.0 added o held)

-- the ranges are what the change touches, wherever they are read
module _ (es : List Element) (ops added : List Op) (ranges read : List PlaceRange) (same : read ≡ ranges) where
  apart_read : AreApart ranges 0 (length es) → AreApart read 0 (length es)
  apart_read = subst (λ (l : List PlaceRange). AreApart l 0 (length es)) (sym same)

  gapped_read : AreGapped ranges → AreGapped read
  gapped_read = subst AreGapped (sym same)

  touched_read : ((o : Op) → Contains added o → TouchesOneOf (ops ++ added) es ranges o) → (o : Op) → Contains added o → TouchesOneOf (ops ++ added) es read o
  touched_read touched o held = subst (λ (l : List PlaceRange). TouchesOneOf (ops ++ added) es l o) (sym same) (touched o held)

  edges_read : (inner : List PlaceRange) → All (HasKeptEdges es inner) ranges → All (HasKeptEdges es inner) read
  edges_read inner = subst (All (HasKeptEdges es inner)) (sym same)

pub windows_of-requires : goal.windows_of-requires
windows_of-requires c =
    let es : List Element = c.args.sequence.now.elements in
    let added : List Op = ops_of_lines c.args.lines.now in
    let ops : List Op = c.requires.step.0 in
    let step = c.requires.step.1 in
    let ranges : List PlaceRange = c.in_ok-ranges.ranges.items in
    let read : List PlaceRange = c.as_slice-ranges.result.now in
    let same : read ≡ ranges = c.as_slice-ranges.ensures.value in
    let told = c.in_ok-ranges.ensures in
    let apart = apart_read es ops added ranges read same told.apart in
    record {
      step = (ops, (c.args.lines.now, step, (told.edges.0, told.edges.1, edges_read es ops added ranges read same told.edges.0 told.edges.2)));
      places = c.requires.places;
      apart = apart;
      gapped = gapped_read es ops added ranges read same told.gapped;
      changed = kept_between ops added c.args.before.now.elements es read step.shows_before step.shows (touched_read es ops added ranges read same (told.touched (ops ++ added) step.removals)) apart;
    }

pub with_windows-requires : goal.with_windows-requires
with_windows-requires c =
    let old : List Element = c.args.before.now.elements in
    let es : List Element = c.args.sequence.now.elements in
    let added : List Op = ops_of_lines c.args.lines.now in
    let ops : List Op = c.requires.step.0 in
    let step = c.requires.step.1 in
    let ranges : List PlaceRange = c.in_ok-ranges.ranges.items in
    let read : List PlaceRange = c.as_slice-ranges.result.now in
    let same : read ≡ ranges = c.as_slice-ranges.ensures.value in
    let told = c.in_ok-ranges.ensures in
    let apart = apart_read es ops added ranges read same told.apart in
    let touched = touched_read es ops added ranges read same (told.touched (ops ++ added) step.removals) in
    let changed = kept_between ops added old es read step.shows_before step.shows touched apart in
    let windows : List Replacement = c.in_ok-windows.windows.items in
    let are = c.in_ok-windows.ensures.replaced changed.0 changed.1 in
    let now : List Span = spans_of c.args.previous.now in
    let order = windows_in_order ops added old es changed.0 read windows c.args.marks.now step.shows_before step.accepted step.shows step.marks apart touched changed.1 are now c.keeps.ensures.maximal step.version.1.spans in
    let text = text_put ops added old es changed.0 read windows c.args.marks.now step.shows_before step.accepted step.shows step.marks apart touched changed.1 are now c.keeps.ensures.maximal step.version.1.spans in
    let inner : List PlaceRange = told.edges.0 in
    let edged =
    windows_edged ops added c.args.marks.now old es inner step.shows_before step.accepted step.shows step.marks (told.edges.1 (ops ++ added) step.removals) now c.keeps.ensures.maximal step.version.1.spans
    changed.0 read windows changed.1 are apart (gapped_read es ops added ranges read same told.gapped) (edges_read es ops added ranges read same inner told.edges.2) in
    record {
      order = subst (λ (l : List Replacement). AreInOrder l 0 (length (glyphs now))) (sym c.as_slice.ensures.value) order;
      windows = subst (All HasMaximalSpans) (sym c.as_slice.ensures.value) (windows_maximal old es c.args.marks.now changed.0 read windows are);
      edged = subst (AreEdged (glyphs now)) (sym c.as_slice.ensures.value) edged;
      short =
          subst (λ (l : List Replacement). length (text_of (put_all l (glyphs now))) ≤ 131072) (sym c.as_slice.ensures.value)
          (subst (λ (t : List ℕ). length t ≤ 131072) (sym text) c.len-count.ensures.bytes);
    }

pub returns-clause-is : goal.returns-clause-is
returns-clause-is c =
    λ ops step.
    let old : List Element = c.args.before.now.elements in
    let es : List Element = c.args.sequence.now.elements in
    let added : List Op = ops_of_lines c.args.lines.now in
    let ranges : List PlaceRange = c.in_ok-ranges.ranges.items in
    let read : List PlaceRange = c.as_slice-ranges.result.now in
    let same : read ≡ ranges = c.as_slice-ranges.ensures.value in
    let told = c.in_ok-ranges.ensures in
    let apart = apart_read es ops added ranges read same told.apart in
    let touched = touched_read es ops added ranges read same (told.touched (ops ++ added) step.removals) in
    let changed = kept_between ops added old es read step.shows_before step.shows touched apart in
    let windows : List Replacement = c.in_ok-windows.windows.items in
    let are = c.in_ok-windows.ensures.replaced changed.0 changed.1 in
    let now = glyphs (spans_of c.args.previous.now) in
    let next = c.in_ok-next.next.version in
    let put : glyphs (spans_of next) ≡ put_all windows now =
    c.in_ok-next.ensures.glyphs ∙ ap (λ (l : List Replacement). put_all l now) c.as_slice.ensures.value in
    subst (λ (n : ℕ). IsVersion (ops ++ added) n next) c.in_ok-next.ensures.number
    (c.windows_are_version.ensures ops added old es changed.0 read step.version.0 windows c.args.marks.now step.shows_before step.accepted step.shows step.marks
    apart touched changed.1 step.version.1 are put)
