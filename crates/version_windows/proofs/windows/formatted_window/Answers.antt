use Rattle.std.proofs.Common.{◌≡◌, ◌-◌, ◌<◌, ◌≤◌, ℕ, List, MatchOption, Some, count_by, length, take, sym, ap, subst, ◌∙◌, ⊎_elim, arith}
use Rattle.std.specs.List.{slice_get}
use Rattle.std.proofs.lemmas.Option.{same_Some}
use Rattle.std.proofs.Math.Nat.{eq-zero-or-pos}
use Rattle.change_ops.specs.declared.operation.Op.{Op}
use Rattle.char_sequence.specs.declared.sequence.Element.{Element}
use Rattle.mark_anchors.specs.Formatting.{Format}
use Rattle.mark_anchors.specs.Ranges.{IsFormatAt, IsUniform}
use Rattle.mark_anchors.proofs.Alike.{ok_more}
use Rattle.mark_places.specs.declared.range.PlaceRange.{PlaceRange}
use Rattle.span_flatten.specs.Taken.{is_visible}
use Rattle.span_flatten.specs.Version.{spans_of}
use Rattle.span_flatten.specs.Window.{Window, IsFlattened}
use Rattle.version_glyphs.specs.Glyphs.{Glyph, glyphs}
use Rattle.version_glyphs.specs.Replacements.{formats}
use Rattle.version_windows.specs.Neighbors.{GiveFormats, HasFormatOf, HasNeighbor}
use Rattle.version_windows.proofs.windows.formatted_window.Goals as goal

-- a window that has one format
abbrev IsOfFormat : List Element → PlaceRange → Format → Window → Type 0
IsOfFormat es range format window =
    (marks : List Op) (place : ℕ) → range.low ≤ place → place < range.high → IsUniform es marks range.low range.high
    → IsFormatAt es marks place format → IsFlattened es marks range.low range.high window

-- it shows the range, if a character has that format, and the element at a place of the range has the format of this one
by_format : (characters : List Glyph) (es : List Element) (range : PlaceRange) (format : Format) (window : Window) → IsOfFormat es range format window → (character : ℕ) → slice_get (formats characters) character ≡ Some format
    → (marks : List Op) (place : ℕ) → range.low ≤ place → place < range.high → IsUniform es marks range.low range.high → HasFormatOf characters es marks character place → IsFlattened es marks range.low range.high window
by_format characters es range format window flat character stands marks place low high uniform has =
    flat marks place low high uniform (subst (IsFormatAt es marks place) (same_Some has.0 format (sym has.1 ∙ stands)) has.2)

pub returns-in-OfNeighbors : goal.returns-in-OfNeighbors
returns-in-OfNeighbors c =
    let es : List Element = c.args.sequence.now.elements in
    let range : PlaceRange = c.args.range in
    let characters : List Glyph = glyphs (spans_of c.in-OfNeighbors.previous.now) in
    let format : Format = c.unwrap-format.result.now in
    let character : ℕ = c.neighbor_of.result in
    let stands : slice_get (formats characters) character ≡ Some format =
    subst (λ r. MatchOption r (length characters ≤ character) (λ f. slice_get (formats characters) character ≡ Some f.now)) c.unwrap-format.ensures c.format_at.ensures in
    ok_more (IsOfFormat es range format)
    (λ window. (old : List Element) (was : PlaceRange) (marks : List Op) → c.args.from ≡ count_by is_visible (take was.low old) → c.args.to ≡ count_by is_visible (take was.high old)
    → GiveFormats c.args.formats old es marks was range → IsFlattened es marks range.low range.high window)
    c.flatten_uniform.result
    (λ window flat old was marks from to given.
    let has : HasNeighbor characters old es marks was range = subst (λ f. GiveFormats f old es marks was range) c.in-OfNeighbors.is given in
    ⊎_elim
    (λ (begins : range.low ≡ 0).
    let last = has.last begins in
    let same : character ≡ count_by is_visible (take was.high old) - 1 = c.neighbor_of.ensures.last begins ∙ ap (λ k. k - 1) to in
    by_format characters es range format window flat character stands marks last.0 (omega (arith, begins)) last.1 has.uniform
    (subst (λ k. HasFormatOf characters es marks k last.0) (sym same) last.3))
    (λ (behind : 0 < range.low).
    let first = has.first behind in
    let same : character ≡ count_by is_visible (take was.low old) = c.neighbor_of.ensures.first behind ∙ from in
    by_format characters es range format window flat character stands marks range.low (omega arith) first.0 has.uniform
    (subst (λ k. HasFormatOf characters es marks k range.low) (sym same) first.1))
    (eq-zero-or-pos range.low))
    c.flatten_uniform.ensures
