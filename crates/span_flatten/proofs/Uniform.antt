-- The window of characters that have one format.
use Rattle.std.proofs.Common.{◌≡◌, ℕ, ◌<◌, ◌≤◌, List, [], ◌∷◌, Some, length, get_or, refl, sym, ◌∙◌, arith, IsUtf8}
use Rattle.std.specs.List.{slice_get, slice_range}
use Rattle.std.proofs.lemmas.Option.{slice_get-get_or}
use Rattle.std.proofs.lemmas.Str.{IsUtf8-nil}
use Rattle.change_ops.specs.declared.operation.Op.{Op}
use Rattle.char_sequence.specs.declared.sequence.Element.{Element}
use Rattle.char_sequence.specs.Visible.{visible_text, visible_count}
use Rattle.mark_anchors.specs.Formatting.{Format}
use Rattle.mark_anchors.specs.Ranges.{IsFormatAt, IsUniform}
use Rattle.span_flatten.specs.declared.version.Row.{Row}
use Rattle.span_flatten.specs.Spans.{Span}
use Rattle.span_flatten.specs.Taken.{IsTaken}
use Rattle.span_flatten.specs.Version.{IsDraft, IsWhole}
use Rattle.span_flatten.specs.Window.{IsFlattened}
use Rattle.span_flatten.proofs.Between.{same_between}
use Rattle.span_flatten.proofs.Drafting.{draft_fresh}
use Rattle.span_flatten.proofs.Taking.{FormattedRange, IsOfFormat, more_of, taken_none, taken_empty, taken_first, taken_window, drafted_whole, piece_more, count_spelt}

-- the place of the one whose format is known may be any between them
pub uniform_anywhere : (es : List Element) (marks : List Op) (low high place : ℕ) (format : Format) → low ≤ place → place < high → high ≤ length es → IsUniform es marks low high → IsFormatAt es marks place format
    → IsOfFormat es marks (record { from = low; to = high; format = format })
uniform_anywhere es marks low high place format from to within uniform is ops i e shows held low_i high_i at =
    let one : Element = get_or es place e in
    let here : slice_get es place ≡ Some one = slice_get-get_or es place e (omega arith) in
    same_between ops es marks low high shows held uniform place i one e from to low_i high_i here at format (is ops one shows held here)

module _ (es : List Element) (low high : ℕ) (order : low ≤ high) (text : List ℕ) (spelt : text ≡ visible_text (slice_range es low high)) where
  -- nothing is visible
  module _ (none : length text ≡ 0) where
    empty_taken : (marks : List Op) → IsTaken es marks low high text []
    empty_taken marks = taken_empty es marks low low high [] text [] order spelt (sym none) (taken_none es marks low)

    pub empty_flattened : (marks : List Op) → IsFlattened es marks low high (record { text = text; rows = [] })
    empty_flattened marks = taken_window es marks low high high text [] refl (empty_taken marks)

  -- one row for all that is visible
  module _ (some : length text ≡ 0 → ⊥) (utf8 : IsUtf8 text) (row : Row) (start : row.start ≡ 0) (end : row.end ≡ length text) (count : row.characters ≡ visible_count (slice_range es low high)) where
    abbrev range : FormattedRange
    range = record { from = low; to = high; format = row.format }

    one_draft : IsDraft (more_of row.format (slice_range es low high)) text (row ∷ [])
    one_draft =
        let piece : Span = record { text = visible_text (slice_range es low high); format = row.format } in
        let is = piece_more es range [] text spelt (λ same. some (sym same)) IsUtf8-nil utf8 in
        draft_fresh [] [] [] text [] row (more_of row.format (slice_range es low high)) piece refl (record { whole = refl; end_to_end = refl }) (λ k d h. absurd (omega arith)) (λ d more. absurd (omega arith)) is spelt start end
        (count ∙ count_spelt (slice_range es low high) is.utf8) refl

    pub one_whole : length (visible_text es) ≤ 131072 → IsWhole text (row ∷ [])
    one_whole limit = drafted_whole es low high _ text (row ∷ []) limit one_draft spelt (omega arith)

    pub one_flattened : high ≤ length es → (marks : List Op) (place : ℕ) → low ≤ place → place < high → IsUniform es marks low high → IsFormatAt es marks place row.format
        → IsFlattened es marks low high (record { text = text; rows = row ∷ [] })
    one_flattened within marks place from to uniform is =
        taken_window es marks low high high text (row ∷ []) refl
        (taken_first es marks range text (row ∷ []) (omega arith) (uniform_anywhere es marks low high place row.format from to within uniform is) spelt some one_draft (omega arith))
