-- Spans of two versions, compared one after another.
use Rattle.std.proofs.Common.{◌≡◌, ℕ, zero, suc, ◌+◌, ◌-◌, ◌<◌, ◌≤◌, List, [], ◌∷◌, ◌++◌, Option, Some, None, IsTrue, IsUtf8, length, map, drop, refl, sym, ap, subst, ◌∙◌, arith, append_assoc, ⊎_elim}
use Rattle.std.specs.Prelude.{IfSome}
use Rattle.std.specs.List.{slice_get}
use Rattle.std.specs.Option.{option_map}
use Rattle.std.proofs.lemmas.Bool.{cases_lt}
use Rattle.std.proofs.lemmas.List.{append-nil, drop-drop, drop_all, drop_more, length-drop, length-take}
use Rattle.std.proofs.lemmas.Option.{get_or_from_slice_get, none-some, same_Some, slice_get-map, slice_get_within}
use Rattle.change_ops.specs.Attributes.{is_link}
use Rattle.mark_anchors.specs.Formatting.{link_in}
use Rattle.semantics.specs.Safe.{IsSpan}
use Rattle.semantics.specs.Step.{Program}
use Rattle.span_flatten.specs.declared.version.Row.{Row}
use Rattle.span_flatten.specs.Spans.{Span}
use Rattle.span_flatten.specs.Version.{Version, span_at, spans_of}
use Rattle.version_glyphs.specs.Glyphs.{AreMaximal}
use Rattle.span_view.specs.Views.{SpanView, view_of, view_at, views}
use Rattle.span_view.specs.ContextOf.{bytes_of}
use Rattle.span_view.proofs.Views.{length-views, rows_few, views_at}
use Rattle.feeds.specs.Kept.{AlikeAt, AreAlike, IsAlike}
use Rattle.feeds.specs.Verdicts.{verdict_on, verdicts_of}
use Rattle.feeds.proofs.Alike.{lent_span}
use Rattle.feeds.proofs.Bytes.{of_link, of_text}

-- what a version in pieces keeps of its spans
pub record AreKept (version : Version) : Type 0 where
  pub maximal : AreMaximal (spans_of version)
  pub short : length version.text ≤ 131072

utf8_at : (spans : List Span) (i : ℕ) (span : Span) → AreMaximal spans → slice_get spans i ≡ Some span → IsUtf8 span.text
utf8_at [] i span maximal is = absurd (none-some span is)
utf8_at (x ∷ xs) zero span maximal is = subst (λ (s : Span). IsUtf8 s.text) (same_Some x span is) maximal.0.utf8
utf8_at (x ∷ xs) (suc i) span maximal is = utf8_at xs i span maximal.2 is

-- ---- a span and its row
-- the row that is seen as a span
pub record IsOf (version : Version) (i : ℕ) (view : SpanView) : Type 0 where
  pub row : Row
  pub is : slice_get version.rows i ≡ Some row
  pub seen : view_of version i row ≡ view

pub row_of : (version : Version) (i : ℕ) (view : SpanView) → view_at version i ≡ Some view → IsOf version i view
row_of version i view there = from (slice_get version.rows i) refl there
  where
    from : (o : Option Row) → slice_get version.rows i ≡ o → option_map (λ row. view_of version i row) o ≡ Some view → IsOf version i view
    from None is e = absurd (none-some view e)
    from (Some row) is e = record { row = row; is = is; seen = same_Some (view_of version i row) view e }

pub span_of : (version : Version) (i : ℕ) (row : Row) → slice_get version.rows i ≡ Some row → slice_get (spans_of version) i ≡ Some (span_at version.text row)
span_of version i row is =
    slice_get-map (λ r. span_at version.text r) version.rows i ∙ ap (option_map (λ r. span_at version.text r)) is

first_left : {X : Type 0} (xs : List X) (i : ℕ) → slice_get (drop i xs) 0 ≡ slice_get xs i
first_left [] zero = refl
first_left [] (suc i) = refl
first_left (x ∷ xs) zero = refl
first_left (x ∷ xs) (suc i) = first_left xs i

-- it is the first of the spans from there on
first_at : (version : Version) (i : ℕ) (row : Row) (left : List Span) → slice_get version.rows i ≡ Some row → left ≡ drop i (spans_of version) → slice_get left 0 ≡ Some (span_at version.text row)
first_at version i row left is from =
    ap (λ (l : List Span). slice_get l 0) from ∙ first_left (spans_of version) i ∙ span_of version i row is

-- ---- spans that are alike
-- a program may be run on a span, the link of which is one
pub lent : (version : Version) (i : ℕ) (row : Row) → AreKept version → slice_get version.rows i ≡ Some row → IfSome (link_in row.format) (λ target. IsTrue (is_link target)) → IsSpan (bytes_of (view_of version i row))
lent version i row kept is link =
    let view : SpanView = view_of version i row in
    let fits : length version.text ≤ 131072 = kept.short in
    let short : length view.text ≤ 131072 = omega (arith, length-take (row.end - row.start) (drop row.start version.text), length-drop row.start version.text) in
    let utf8 = utf8_at (spans_of version) i (span_at version.text row) kept.maximal (span_of version i row is) in
    let target = of_link (link_in row.format) link in
    lent_span view short target.0 (of_text view.text utf8).each target.1.each

pub alike_here : (older newer : Version) (i j : ℕ) (olds news : List Span) → AreKept older → AreKept newer → olds ≡ drop i (spans_of older) → news ≡ drop j (spans_of newer)
    → ((a b : Span) → slice_get olds 0 ≡ Some a → slice_get news 0 ≡ Some b → AreAlike a b) → AlikeAt older i newer j
alike_here older newer i j olds news kept kept_newer o n alike a b p q =
    let one = row_of older i a p in
    let other = row_of newer j b q in
    let same = alike (span_at older.text one.row) (span_at newer.text other.row) (first_at older i one.row olds one.is o) (first_at newer j other.row news other.is n) in
    let link : IfSome (link_in one.row.format) (λ target. IsTrue (is_link target)) = subst (λ (l : Option (List ℕ)). IfSome l (λ target. IsTrue (is_link target))) (sym same.format.link) same.link in
    let here : IsAlike (view_of older i one.row) (view_of newer j other.row) = record {
      older_lent = lent older i one.row kept one.is link;
      newer_lent = lent newer j other.row kept_newer other.is same.link;
      text = same.text;
      format = same.format;
    } in
    subst (λ (x : SpanView). IsAlike x b) one.seen (subst (λ (y : SpanView). IsAlike (view_of older i one.row) y) other.seen here)

-- the next one is taken
pub left_on : (version : Version) (i j : ℕ) (left next : List Span) → left ≡ drop i (spans_of version) → next ≡ drop 1 left → j ≡ i + 1 → next ≡ drop j (spans_of version)
left_on version i j left next is on e = on ∙ ap (drop 1) is ∙ drop-drop 1 i (spans_of version) ∙ ap (λ n. drop n (spans_of version)) (sym e)

-- those up to the last one that was compared, and the next ones
pub alike_longer : (older newer : Version) (p q p' q' run : ℕ) → ((i : ℕ) → i < run → AlikeAt older (p - 1 - i) newer (q - 1 - i)) → AlikeAt older p newer q
    → p' ≡ p + 1 → q' ≡ q + 1 → (i : ℕ) → i < run + 1 → AlikeAt older (p' - 1 - i) newer (q' - 1 - i)
alike_longer older newer p q p' q' run below here e f zero less =
    let one : p ≡ p' - 1 - zero = omega arith in
    let other : q ≡ q' - 1 - zero = omega arith in
    subst (λ x. AlikeAt older x newer (q' - 1 - zero)) one (subst (λ y. AlikeAt older p newer y) other here)
alike_longer older newer p q p' q' run below here e f (suc i) less =
    let one : p - 1 - i ≡ p' - 1 - suc i = omega arith in
    let other : q - 1 - i ≡ q' - 1 - suc i = omega arith in
    subst (λ x. AlikeAt older x newer (q' - 1 - suc i)) one (subst (λ y. AlikeAt older (p - 1 - i) newer y) other (below i (omega arith)))

-- those up to the last one, and those of a run before them
pub alike_joined : (older newer : Version) (p q back count run : ℕ) → ((i : ℕ) → i < back → AlikeAt older (p - 1 - i) newer (q - 1 - i))
    → ((i : ℕ) → i < run → AlikeAt older (p - (back + count) + count - 1 - i) newer (q - (back + count) + count - 1 - i))
    → run ≤ count → back + count ≤ p → back + count ≤ q → (i : ℕ) → i < back + run → AlikeAt older (p - 1 - i) newer (q - 1 - i)
alike_joined older newer p q back count run below more few in_p in_q i less =
    ⊎_elim
    (λ (low : i < back). below i low)
    (λ (high : back ≤ i).
    let one : p - (back + count) + count - 1 - (i - back) ≡ p - 1 - i = omega arith in
    let other : q - (back + count) + count - 1 - (i - back) ≡ q - 1 - i = omega arith in
    subst (λ x. AlikeAt older x newer (q - 1 - i)) one
    (subst (λ y. AlikeAt older (p - (back + count) + count - 1 - (i - back)) newer y) other (more (i - back) (omega arith))))
    (cases_lt i back)

-- ---- the verdicts on spans that are walked
-- one more verdict
pub verdict_more : (program : Program) (version : Version) (i : ℕ) (view : SpanView) (found : List ℕ) → view_at version i ≡ Some view
    → found ++ map (verdict_on program) (drop i (views version)) ≡ verdicts_of program version
    → (found ++ verdict_on program view ∷ []) ++ map (verdict_on program) (drop (i + 1) (views version)) ≡ verdicts_of program version
verdict_more program version i view found there whole =
    let all : List SpanView = views version in
    let is : slice_get all i ≡ Some view = views_at version i ∙ there in
    let front : drop i all ≡ view ∷ drop (i + 1) all =
    drop_more all i view (slice_get_within all i view is) ∙ ap (λ y. y ∷ drop (i + 1) all) (get_or_from_slice_get all i view view is) in
    append_assoc found (verdict_on program view ∷ []) (map (verdict_on program) (drop (i + 1) all))
    ∙ ap (λ l. found ++ map (verdict_on program) l) (sym front) ∙ whole

-- no span is left
pub verdict_all : (program : Program) (version : Version) (i : ℕ) (found : List ℕ) → drop i (spans_of version) ≡ []
    → found ++ map (verdict_on program) (drop i (views version)) ≡ verdicts_of program version → found ≡ verdicts_of program version
verdict_all program version i found none whole =
    let past : length (views version) ≤ i = omega (arith, ap length none, length-drop i (spans_of version), rows_few version, length-views version) in
    sym (append-nil found) ∙ ap (λ l. found ++ map (verdict_on program) l) (sym (drop_all i (views version) past)) ∙ whole
