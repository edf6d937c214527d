-- Spans laid out as one text and rows.
use Rattle.std.proofs.Common.{◌≡◌, ℕ, ◌+◌, ◌-◌, ◌≤◌, List, [], ◌∷◌, ◌++◌, length, map, take, drop, refl, sym, ap, subst, ◌∙◌, arith, append_assoc, length-append, All, IsUtf8}
use Rattle.std.specs.List.{slice_range}
use Rattle.std.specs.Str.{IsCharBoundary, chars}
use Rattle.std.proofs.lemmas.List.{append-nil, drop_at, take_at}
use Rattle.std.proofs.lemmas.List.Elements.{All-cons, All-head, All-tail}
use Rattle.std.proofs.lemmas.Grind.{flat_map-append}
use Rattle.std.proofs.lemmas.Str.{IsUtf8-nil, IsUtf8-append, IsCharBoundary-at_seam, length-le-encodes, encodes-chars}
use Rattle.span_flatten.specs.declared.version.Row.{Row}
use Rattle.span_flatten.specs.Spans.{Span}
use Rattle.span_flatten.specs.Version.{span_at, spans_in, joined, rows_from, IsLayout}

sliced : (before text after : List ℕ) → slice_range (before ++ (text ++ after)) (length before) (length before + length text) ≡ text
sliced before text after =
    let e : (length before + length text) - length before ≡ length text = omega arith in
    ap (λ n. take n (drop (length before) (before ++ (text ++ after)))) e ∙ ap (take (length text)) (drop_at before (text ++ after) (length before) refl)
    ∙ take_at text after (length text) refl

-- one step further in the text
further : (P : List ℕ → ℕ → Type 0) (before text after : List ℕ) → P ((before ++ text) ++ after) (length (before ++ text)) → P (before ++ (text ++ after)) (length before + length text)
further P before text after h = subst (λ n. P (before ++ (text ++ after)) n) (length-append before text) (subst (λ t. P t (length (before ++ text))) (append_assoc before text after) h)

read_back : (before : List ℕ) (spans : List Span) → map (λ row. span_at (before ++ joined spans) row) (rows_from (length before) spans) ≡ spans
read_back before [] = refl
read_back before (span ∷ spans) =
    let make : List ℕ → Span = λ t. record { text = t; format = span.format } in
    let whole : List ℕ = before ++ (span.text ++ joined spans) in
    let head : span_at whole (record { start = length before; end = length before + length span.text; characters = length (chars span.text); format = span.format }) ≡ span = ap make (sliced before span.text (joined spans)) in
    let tail : map (λ row. span_at whole row) (rows_from (length before + length span.text) spans) ≡ spans =
    further (λ t n. map (λ row. span_at t row) (rows_from n spans) ≡ spans) before span.text (joined spans) (read_back (before ++ span.text) spans) in
    cc

-- the spans that are read from a layout are those that were laid out
pub spans_back : (spans : List Span) (text : List ℕ) (rows : List Row) → IsLayout spans text rows → spans_in text rows ≡ spans
spans_back spans text rows l = ap (λ t. spans_in t rows) l.whole ∙ ap (λ r. spans_in (joined spans) r) l.end_to_end ∙ read_back [] spans

pub layout_back : (spans : List Span) (text : List ℕ) (rows : List Row) → IsLayout spans text rows → IsLayout (spans_in text rows) text rows
layout_back spans text rows l = subst (λ s. IsLayout s text rows) (sym (spans_back spans text rows l)) l

pub length-rows_from : (start : ℕ) (spans : List Span) → length (rows_from start spans) ≡ length spans
length-rows_from start [] = refl
length-rows_from start (span ∷ spans) = let e = length-rows_from (start + length span.text) spans in omega arith

-- one span more
pub joined-push : (spans : List Span) (span : Span) → joined (spans ++ span ∷ []) ≡ joined spans ++ span.text
joined-push spans span = flat_map-append (λ s. s.text) spans (span ∷ []) ∙ ap (λ t. joined spans ++ t) (append-nil span.text)

pub rows_from-push : (start : ℕ) (spans : List Span) (span : Span) (at : ℕ) → at ≡ start + length (joined spans) → rows_from start (spans ++ span ∷ []) ≡ rows_from start spans ++ record { start = at; end = at + length span.text; characters = length (chars span.text); format = span.format } ∷ []
rows_from-push start [] span at e =
    let make : ℕ → List Row = λ n. record { start = n; end = n + length span.text; characters = length (chars span.text); format = span.format } ∷ [] in
    let same : start ≡ at = omega arith in
    ap make same
rows_from-push start (x ∷ xs) span at e =
    let after : at ≡ (start + length x.text) + length (joined xs) = omega (arith, length-append x.text (joined xs)) in
    ap (λ rows. record { start = start; end = start + length x.text; characters = length (chars x.text); format = x.format } ∷ rows) (rows_from-push (start + length x.text) xs span at after)

-- a row may be cut out of the text
seam : (before : List ℕ) (spans : List Span) → All (λ s. IsUtf8 s.text) spans → IsUtf8 (joined spans)
seam before [] texts = IsUtf8-nil
seam before (span ∷ spans) texts =
    IsUtf8-append span.text (joined spans) (All-head (λ s. IsUtf8 s.text) span spans texts) (seam before spans (All-tail (λ s. IsUtf8 s.text) span spans texts))

boundary : (before : List ℕ) (spans : List Span) → All (λ s. IsUtf8 s.text) spans → IsCharBoundary (before ++ joined spans) (length before)
boundary before spans texts = IsCharBoundary-at_seam (before ++ joined spans) before (joined spans) refl (seam before spans texts)

pub rows_ordered : (start : ℕ) (spans : List Span) → All (λ row. row.start ≤ row.end) (rows_from start spans)
rows_ordered start [] = λ k d h. absurd (omega arith)
rows_ordered start (span ∷ spans) = All-cons (λ row. row.start ≤ row.end) _ _ (omega arith) (rows_ordered (start + length span.text) spans)

rows_start : (before : List ℕ) (spans : List Span) → All (λ s. IsUtf8 s.text) spans → All (λ row. IsCharBoundary (before ++ joined spans) row.start) (rows_from (length before) spans)
rows_start before [] texts = λ k d h. absurd (omega arith)
rows_start before (span ∷ spans) texts =
    All-cons (λ row. IsCharBoundary (before ++ (span.text ++ joined spans)) row.start) _ _ (boundary before (span ∷ spans) texts)
    (further (λ t n. All (λ row. IsCharBoundary t row.start) (rows_from n spans)) before span.text (joined spans) (rows_start (before ++ span.text) spans (All-tail (λ s. IsUtf8 s.text) span spans texts)))

rows_end : (before : List ℕ) (spans : List Span) → All (λ s. IsUtf8 s.text) spans → All (λ row. IsCharBoundary (before ++ joined spans) row.end) (rows_from (length before) spans)
rows_end before [] texts = λ k d h. absurd (omega arith)
rows_end before (span ∷ spans) texts =
    let others = All-tail (λ s. IsUtf8 s.text) span spans texts in
    All-cons (λ row. IsCharBoundary (before ++ (span.text ++ joined spans)) row.end) _ _
    (further (λ t n. IsCharBoundary t n) before span.text (joined spans) (boundary (before ++ span.text) spans others))
    (further (λ t n. All (λ row. IsCharBoundary t row.end) (rows_from n spans)) before span.text (joined spans) (rows_end (before ++ span.text) spans others))

pub cut_starts : (spans : List Span) → All (λ s. IsUtf8 s.text) spans → All (λ row. IsCharBoundary (joined spans) row.start) (rows_from 0 spans)
cut_starts spans texts = rows_start [] spans texts

pub cut_ends : (spans : List Span) → All (λ s. IsUtf8 s.text) spans → All (λ row. IsCharBoundary (joined spans) row.end) (rows_from 0 spans)
cut_ends spans texts = rows_end [] spans texts

-- each row counts the characters of its piece of the text
rows_count : (before : List ℕ) (spans : List Span) → All (λ row. row.characters ≡ length (chars (slice_range (before ++ joined spans) row.start row.end))) (rows_from (length before) spans)
rows_count before [] = λ k d h. absurd (omega arith)
rows_count before (span ∷ spans) =
    All-cons (λ row. row.characters ≡ length (chars (slice_range (before ++ (span.text ++ joined spans)) row.start row.end))) _ _
    (ap (λ t. length (chars t)) (sym (sliced before span.text (joined spans))))
    (further (λ t n. All (λ row. row.characters ≡ length (chars (slice_range t row.start row.end))) (rows_from n spans)) before span.text (joined spans) (rows_count (before ++ span.text) spans))

pub cut_counts : (spans : List Span) → All (λ row. row.characters ≡ length (chars (slice_range (joined spans) row.start row.end))) (rows_from 0 spans)
cut_counts spans = rows_count [] spans

-- a text has no more characters than bytes
chars_few : (text : List ℕ) → IsUtf8 text → length (chars text) ≤ length text
chars_few text utf8 =
    let few = length-le-encodes (chars text) in
    let same = ap length (encodes-chars text utf8) in
    omega (arith, few, same)

pub counts_few : (start : ℕ) (spans : List Span) → All (λ s. IsUtf8 s.text) spans → All (λ row. row.characters ≤ length (joined spans)) (rows_from start spans)
counts_few start [] texts = λ k d h. absurd (omega arith)
counts_few start (span ∷ spans) texts =
    let size = length-append span.text (joined spans) in
    let first = chars_few span.text (All-head (λ s. IsUtf8 s.text) span spans texts) in
    let rest = counts_few (start + length span.text) spans (All-tail (λ s. IsUtf8 s.text) span spans texts) in
    All-cons (λ row. row.characters ≤ length (span.text ++ joined spans)) _ _ (omega (arith, size, first)) (λ k d h. let few = rest k d h in omega (arith, size, few))
