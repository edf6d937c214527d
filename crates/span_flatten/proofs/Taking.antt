-- The text is taken in range after range.
use Rattle.std.proofs.Common.{◌≡◌, ℕ, zero, suc, ◌+◌, ◌-◌, ◌*◌, ◌<◌, ◌≤◌, Bool, true, false, cond, List, [], ◌∷◌, ◌++◌, Some, length, map, take, drop, get_or, refl, sym, ap, subst, ◌∙◌, arith, zero-add, append-nil, length-append, All, IsUtf8, encode_utf8_all, ⊎_elim}
use Rattle.std.specs.List.{filter, slice_get, slice_range, Contains}
use Rattle.std.specs.Str.{IsCharBoundary, chars}
use Rattle.std.proofs.lemmas.Bool.{cases_Bool, cases_lt}
use Rattle.std.proofs.lemmas.Option.{none-some, slice_get-get_or}
use Rattle.std.proofs.lemmas.List.{map-append, take_all, take-append-drop, drop-drop, drop_at, take_at}
use Rattle.std.proofs.lemmas.List.Sums.{length-filter}
use Rattle.std.proofs.lemmas.List.Elements.{All-append, All-cons, All-contains, filter-append}
use Rattle.std.proofs.lemmas.Str.{length-encode, len_utf8_bounds, length-le-encodes, chars_from_encodes, IsUtf8-drop, IsCharBoundary-from_take}
use Rattle.std.specs.Char.{encode_utf8}
use Rattle.change_ops.specs.declared.operation.Op.{Op}
use Rattle.char_sequence.specs.declared.sequence.Element.{Element}
use Rattle.char_sequence.specs.Order.{Shows}
use Rattle.char_sequence.specs.Visible.{visible_text, visible_count}
use Rattle.char_sequence.proofs.VisibleText.{visible_none, visible_append, visible_front}
use Rattle.mark_anchors.specs.Format.{IsFormat}
use Rattle.mark_anchors.specs.Formatting.{Format}
use Rattle.mark_anchors.specs.Marks.{AreMarks}
use Rattle.mark_anchors.specs.Ranges.{IsFormatAt, IsUniform}
use Rattle.mark_anchors.proofs.Uniform.{one_format_between}
use Rattle.span_flatten.specs.declared.version.Row.{Row}
use Rattle.span_flatten.specs.Spans.{Shown, Cuts}
use Rattle.span_flatten.specs.Taken.{element_of, is_visible, AreDrawn, IsLastFormat, IsTaken}
use Rattle.span_flatten.specs.Version.{rows_from, IsPiece, IsDraft, IsWhole, IsVersion}
use Rattle.span_flatten.specs.Window.{IsFlattened}
use Rattle.span_flatten.proofs.Laying.{spans_back, layout_back, rows_ordered, cut_starts, cut_ends, cut_counts, counts_few}
use Rattle.span_flatten.proofs.Showing.{contains_at, filter_from, shown_visible}

-- characters side by side, hidden ones too, that have one format: those at the places from `from` up to `to`, which is not one of them
pub record FormattedRange : Type 0 where
  pub from : ℕ
  pub to : ℕ
  pub format : Format

-- each character of the range has its format
abbrev pub IsOfFormat : List Element → List Op → FormattedRange → Type 0
IsOfFormat es marks r =
    (ops : List Op) (place : ℕ) (e : Element) → Shows es ops → AreMarks ops marks → r.from ≤ place → place < r.to → slice_get es place ≡ Some e → IsFormat ops e.id r.format

-- between two cuts all characters have the first one's format
pub uniform_range : (es : List Element) (marks : List Op) (from to : ℕ) (format : Format) → from < to → to ≤ length es → IsUniform es marks from to → IsFormatAt es marks from format → IsOfFormat es marks (record { from = from; to = to; format = format })
uniform_range es marks from to format some within uniform is ops place e shows held low high at =
    let first : Element = get_or es from e in
    let here : slice_get es from ≡ Some first = slice_get-get_or es from e (omega arith) in
    one_format_between ops es marks from to place first e shows held uniform here at low high format (is ops first shows held here)

all_contained : {X : Type 0} (P : X → Type 0) (xs : List X) → ((x : X) → Contains xs x → P x) → All P xs
all_contained P xs each k d within = each (get_or xs k d) (contains_at xs k (get_or xs k d) (slice_get-get_or xs k d within))

none : {X : Type 0} (P : X → Type 0) → All P []
none P k d h = absurd (omega arith)

range_none : (es : List Element) (low : ℕ) → slice_range es low low ≡ []
range_none es low = let none : low - low ≡ 0 = omega arith in ap (λ n. take n (drop low es)) none

pub taken_none : (elements : List Element) (marks : List Op) (low : ℕ) → IsTaken elements marks low low [] []
taken_none elements marks low = record {
  order = omega arith;
  shown = [];
  drawn = ap (filter is_visible) (sym (range_none elements low));
  formatted = λ ops h m. none (λ s. IsFormat ops s.id s.format);
  draft = record { spans = []; cut = refl; layout = record { whole = refl; end_to_end = refl }; texts = none (λ s. IsUtf8 s.text) };
  spelt = sym (ap visible_text (range_none elements low) ∙ visible_none);
  few = omega arith;
}

-- ---- the places of a range
take_nil : {X : Type 0} (n : ℕ) → take {A = X} n [] ≡ []
take_nil zero = refl
take_nil (suc n) = refl

take_on : {X : Type 0} (i n : ℕ) (xs : List X) → take (i + n) xs ≡ take i xs ++ take n (drop i xs)
take_on zero n xs = ap (λ k. take k xs) (zero-add n)
take_on (suc i) n [] = take_nil (suc i + n) ∙ sym (take_nil n)
take_on (suc i) n (x ∷ xs) =
    let next : suc i + n ≡ suc (i + n) = omega arith in
    ap (λ k. take k (x ∷ xs)) next ∙ ap (λ l. x ∷ l) (take_on i n xs)

take_range : {X : Type 0} (xs : List X) (from to : ℕ) → from ≤ to → take to xs ≡ take from xs ++ slice_range xs from to
take_range xs from to le =
    let sum : to ≡ from + (to - from) = omega arith in
    ap (λ k. take k xs) sum ∙ take_on from (to - from) xs

-- a range, and the one that begins where it ends
range_on : (es : List Element) (low from to : ℕ) → low ≤ from → from ≤ to → slice_range es low to ≡ slice_range es low from ++ slice_range es from to
range_on es low from to first order =
    let left : (to - low) - (from - low) ≡ to - from = omega arith in
    let there : low + (from - low) ≡ from = omega arith in
    take_range (drop low es) (from - low) (to - low) (omega arith)
    ∙ ap (λ n. slice_range es low from ++ take n (drop (from - low) (drop low es))) left
    ∙ ap (λ l. slice_range es low from ++ take (to - from) l) (drop-drop (from - low) low es ∙ ap (λ n. drop n es) there)

in_take : {X : Type 0} (n : ℕ) (xs : List X) (m : ℕ) (x : X) → slice_get (take n xs) m ≡ Some x → (m < n) × (slice_get xs m ≡ Some x)
in_take zero xs m x g = absurd (none-some x g)
in_take (suc n) [] m x g = absurd (none-some x g)
in_take (suc n) (y ∷ ys) zero x g = (omega arith, g)
in_take (suc n) (y ∷ ys) (suc m) x g = let r = in_take n ys m x g in let less : m < n = r.0 in (omega arith, r.1)

in_drop : {X : Type 0} (i : ℕ) (xs : List X) (m : ℕ) (x : X) → slice_get (drop i xs) m ≡ Some x → slice_get xs (i + m) ≡ Some x
in_drop zero xs m x g = ap (slice_get xs) (zero-add m) ∙ g
in_drop (suc i) [] m x g = absurd (none-some x g)
in_drop (suc i) (y ∷ ys) m x g = let next : suc i + m ≡ suc (i + m) = omega arith in ap (slice_get (y ∷ ys)) next ∙ in_drop i ys m x g

in_range : (es : List Element) (from to m : ℕ) (x : Element) → slice_get (slice_range es from to) m ≡ Some x → (k : ℕ) × (from ≤ k) × (k < to) × (slice_get es k ≡ Some x)
in_range es from to m x g =
    let r = in_take (to - from) (drop from es) m x g in
    let less : m < to - from = r.0 in
    (from + m, omega arith, omega arith, in_drop from es m x r.1)

-- ---- the visible characters of a range, with its format
abbrev pub shown_as : Format → Element → Shown
shown_as f e = record { id = e.id; character = e.character; format = f }

abbrev pub more_of : Format → List Element → List Shown
more_of f es = map (shown_as f) (filter is_visible es)

drawn_more : (f : Format) (es : List Element) → map element_of (more_of f es) ≡ filter is_visible es
drawn_more f [] = refl
drawn_more f (e ∷ es) =
    ⊎_elim
    (λ (yes : e.visible ≡ true).
    let same : element_of (shown_as f e) ≡ e = λ i. record { id = e.id; character = e.character; visible = sym yes i } in
    ap (λ b. map element_of (map (shown_as f) (cond b (e ∷ filter is_visible es) (filter is_visible es)))) yes
    ∙ (λ i. same i ∷ drawn_more f es i)
    ∙ ap (λ b. cond b (e ∷ filter is_visible es) (filter is_visible es)) (sym yes))
    (λ (no : e.visible ≡ false).
    ap (λ b. map element_of (map (shown_as f) (cond b (e ∷ filter is_visible es) (filter is_visible es)))) no
    ∙ drawn_more f es
    ∙ ap (λ b. cond b (e ∷ filter is_visible es) (filter is_visible es)) (sym no))
    (cases_Bool e.visible)

all_as : (P : Shown → Type 0) (f : Format) (xs : List Element) → ((m : ℕ) (x : Element) → slice_get xs m ≡ Some x → P (shown_as f x)) → All P (map (shown_as f) xs)
all_as P f [] each = none P
all_as P f (x ∷ xs) each = All-cons P (shown_as f x) (map (shown_as f) xs) (each zero x refl) (all_as P f xs (λ m y g. each (suc m) y g))

characters_as : (f : Format) (xs : List Element) → map (λ s. s.character) (map (shown_as f) xs) ≡ map (λ e. e.character) xs
characters_as f [] = refl
characters_as f (x ∷ xs) = ap (λ l. x.character ∷ l) (characters_as f xs)

spelt_more : (f : Format) (es : List Element) → visible_text es ≡ encode_utf8_all (map (λ s. s.character) (more_of f es))
unfolding visible_text
spelt_more f es = ap encode_utf8_all (sym (characters_as f (filter is_visible es)))

empty_more : (es : List Element) → length (visible_text es) ≡ 0 → filter is_visible es ≡ []
unfolding visible_text
empty_more es none_shown = nil_of (filter is_visible es) (length-le-encodes (map (λ e. e.character) (filter is_visible es)))
  where
    nil_of : (xs : List Element) → length (map (λ e. e.character) xs) ≤ length (visible_text es) → xs ≡ []
    nil_of [] le = refl
    nil_of (x ∷ xs) le = absurd (omega arith)

shown_none : (es : List Element) → filter is_visible es ≡ [] → length (visible_text es) ≡ 0
unfolding visible_text
shown_none es e = ap (λ xs. length (encode_utf8_all (map (λ z. z.character) xs))) e

encoded_short : (cs : List ℕ) → length (encode_utf8_all cs) ≤ 4 * length cs
encoded_short [] = omega arith
encoded_short (c ∷ cs) =
    let rest : length (encode_utf8_all cs) ≤ 4 * length cs = encoded_short cs in
    let bounds = len_utf8_bounds c in
    let whole = length-append (encode_utf8 c) (encode_utf8_all cs) in
    let one = length-encode c in
    omega arith

filter_short : (es : List Element) → length (filter is_visible es) ≤ length es
filter_short [] = omega arith
filter_short (e ∷ es) =
    let rest : length (filter is_visible es) ≤ length es = filter_short es in
    ⊎_elim
    (λ (yes : e.visible ≡ true). subst (λ (b : Bool). length (cond b (e ∷ filter is_visible es) (filter is_visible es)) ≤ suc (length es)) (sym yes) (omega arith))
    (λ (no : e.visible ≡ false). subst (λ (b : Bool). length (cond b (e ∷ filter is_visible es) (filter is_visible es)) ≤ suc (length es)) (sym no) (omega arith))
    (cases_Bool e.visible)

characters_count : (xs : List Element) → length (map (λ e. e.character) xs) ≡ length xs
characters_count [] = refl
characters_count (x ∷ xs) = ap suc (characters_count xs)

pub visible_short : (es : List Element) → length (visible_text es) ≤ 4 * length es
unfolding visible_text
visible_short es =
    let bytes = encoded_short (map (λ e. e.character) (filter is_visible es)) in
    let count = characters_count (filter is_visible es) in
    let few = filter_short es in
    omega arith

-- the visible characters are those that the visible text spells, each of at least one byte
pub count_spelt : (es : List Element) → IsUtf8 (visible_text es) → visible_count es ≡ length (chars (visible_text es))
unfolding visible_text
count_spelt es utf8 =
    sym (length-filter is_visible es)
    ∙ sym (characters_count (filter is_visible es))
    ∙ ap length (chars_from_encodes (map (λ e. e.character) (filter is_visible es)) (visible_text es) utf8 refl)

pub count_few : (es : List Element) → visible_count es ≤ length (visible_text es)
unfolding visible_text
count_few es =
    let bytes = length-le-encodes (map (λ e. e.character) (filter is_visible es)) in
    let count = characters_count (filter is_visible es) in
    let same = length-filter is_visible es in
    omega (arith, bytes, count, same)

-- no row of a draft has more characters than the text has bytes
pub draft_counts : (shown : List Shown) (text : List ℕ) (rows : List Row) → IsDraft shown text rows → All (λ row. row.characters ≤ length text) rows
draft_counts shown text rows d =
    subst (λ r. All (λ row. row.characters ≤ length text) r) (sym d.layout.end_to_end)
    (subst (λ x. All (λ row. row.characters ≤ length x) (rows_from 0 d.spans)) (sym d.layout.whole) (counts_few 0 d.spans d.texts))

-- no range spells more bytes than the whole
range_bytes : (es : List Element) (from to : ℕ) → length (visible_text (slice_range es from to)) ≤ length (visible_text es)
range_bytes es from to =
    let front = visible_front (drop from es) (to - from) in
    let whole : length (visible_text es) ≡ length (visible_text (take from es)) + length (visible_text (drop from es)) =
    ap (λ l. length (visible_text l)) (sym (take-append-drop from es)) ∙ ap length (visible_append (take from es) (drop from es)) ∙ length-append (visible_text (take from es)) (visible_text (drop from es))
    in
    omega (arith, front, whole)

-- ---- one range more
drawn_range : (es : List Element) (f : Format) (shown : List Shown) (low from to : ℕ) → low ≤ from → from ≤ to → AreDrawn (slice_range es low from) shown → AreDrawn (slice_range es low to) (shown ++ more_of f (slice_range es from to))
drawn_range es f shown low from to first le drawn =
    map-append element_of shown (more_of f (slice_range es from to))
    ∙ ap (λ l. l ++ map element_of (more_of f (slice_range es from to))) drawn
    ∙ ap (λ l. filter is_visible (slice_range es low from) ++ l) (drawn_more f (slice_range es from to))
    ∙ sym (filter-append is_visible (slice_range es low from) (slice_range es from to))
    ∙ ap (filter is_visible) (sym (range_on es low from to first le))

-- the text of a range, and of the one that begins where it ends
spelt_on : (es : List Element) (low from to : ℕ) (text text' : List ℕ) → low ≤ from → from ≤ to → text ≡ visible_text (slice_range es low from) → text' ≡ text ++ visible_text (slice_range es from to) → text' ≡ visible_text (slice_range es low to)
spelt_on es low from to text text' first order spelt grown =
    grown ∙ ap (λ l. l ++ visible_text (slice_range es from to)) spelt
    ∙ sym (visible_append (slice_range es low from) (slice_range es from to))
    ∙ ap visible_text (sym (range_on es low from to first order))

-- where the text didn't grow there is nothing to see
pub taken_empty : (es : List Element) (marks : List Op) (low from to : ℕ) (text text' : List ℕ) (rows : List Row) → from ≤ to → text' ≡ text ++ visible_text (slice_range es from to) → length text ≡ length text' → IsTaken es marks low from text rows → IsTaken es marks low to text' rows
taken_empty es marks low from to text text' rows order grown same t =
    let none_shown : length (visible_text (slice_range es from to)) ≡ 0 = omega (arith, ap length grown, length-append text (visible_text (slice_range es from to))) in
    let hidden : filter is_visible (slice_range es from to) ≡ [] = empty_more (slice_range es from to) none_shown in
    let kept : text' ≡ text = grown ∙ ap (λ l. text ++ l) (nil_bytes (visible_text (slice_range es from to)) none_shown) ∙ append-nil text in
    let first : low ≤ from = t.order in
    let few : length rows ≤ length text = t.few in
    record {
      order = omega arith;
      shown = t.shown;
      drawn =
          t.drawn ∙ sym (append-nil (filter is_visible (slice_range es low from))) ∙ ap (λ l. filter is_visible (slice_range es low from) ++ l) (sym hidden)
          ∙ sym (filter-append is_visible (slice_range es low from) (slice_range es from to)) ∙ ap (filter is_visible) (sym (range_on es low from to first order));
      formatted = t.formatted;
      draft = subst (λ l. IsDraft t.shown l rows) (sym kept) t.draft;
      spelt = spelt_on es low from to text text' first order t.spelt grown;
      few = omega (arith, few, same);
    }
  where
    nil_bytes : (xs : List ℕ) → length xs ≡ 0 → xs ≡ []
    nil_bytes [] e = refl
    nil_bytes (x ∷ xs) e = absurd (omega arith)

-- where the text grew there is a character
pub some_between : (left : List Element) (from to : ℕ) (text text' : List ℕ) → from ≤ to → text' ≡ text ++ visible_text (take (to - from) left) → (length text ≡ length text' → ⊥) → from < to
some_between left from to text text' order grown grew =
    ⊎_elim
    (λ (less : from < to). less)
    (λ (ge : to ≤ from).
    let none : to - from ≡ 0 = omega arith in
    let bytes : length (visible_text (take (to - from) left)) ≤ 4 * length (take (to - from) left) = visible_short (take (to - from) left) in
    let size : length (take (to - from) left) ≡ 0 = ap (λ n. length (take n left)) none in
    absurd (grew (omega (arith, ap length grown, length-append text (visible_text (take (to - from) left)), bytes, size))))
    (cases_lt from to)

-- what is visible of a range is a piece, where the text grew
pub piece_more : (es : List Element) (r : FormattedRange) (text text' : List ℕ) → text' ≡ text ++ visible_text (slice_range es r.from r.to) → (length text ≡ length text' → ⊥) → IsUtf8 text → IsUtf8 text'
    → IsPiece (more_of r.format (slice_range es r.from r.to)) (record { text = visible_text (slice_range es r.from r.to); format = r.format })
piece_more es r text text' grown grew utf8 utf8' = record {
  some = some_of (filter is_visible (slice_range es r.from r.to)) (λ e. grew (omega (arith, ap length grown, length-append text (visible_text (slice_range es r.from r.to)), shown_none (slice_range es r.from r.to) e)));
  alike = all_as (λ s. s.format ≡ r.format) r.format (filter is_visible (slice_range es r.from r.to)) (λ m x g. refl);
  spelt = spelt_more r.format (slice_range es r.from r.to);
  utf8 =
      let cut : drop (length text) text' ≡ visible_text (slice_range es r.from r.to) = ap (drop (length text)) grown ∙ drop_at text (visible_text (slice_range es r.from r.to)) (length text) refl in
      let front : take (length text) text' ≡ text = ap (take (length text)) grown ∙ take_at text (visible_text (slice_range es r.from r.to)) (length text) refl in
      let within : length text ≤ length text' = omega (arith, ap length grown, length-append text (visible_text (slice_range es r.from r.to))) in
      subst IsUtf8 cut (IsUtf8-drop text' (length text) utf8' (IsCharBoundary-from_take text' (length text) utf8' within (subst IsUtf8 (sym front) utf8)));
}
  where
    some_of : (xs : List Element) → (xs ≡ [] → ⊥) → 0 < length (map (shown_as r.format) xs)
    some_of [] not = absurd (not refl)
    some_of (x ∷ xs) not = omega arith

module _ (es : List Element) (marks : List Op) (r : FormattedRange) (text text' : List ℕ) (rows : List Row) (some : r.from < r.to) (of : IsOfFormat es marks r) (grown : text' ≡ text ++ visible_text (slice_range es r.from r.to)) (low : ℕ) (t : IsTaken es marks low r.from text rows) where
  pub taken_more : (length text ≡ length text' → ⊥) → (rows' : List Row) → IsDraft (t.shown ++ more_of r.format (slice_range es r.from r.to)) text' rows' → length rows' ≤ length rows + 1 → IsTaken es marks low r.to text' rows'
  taken_more grew rows' draft count =
      let first : low ≤ r.from = t.order in
      let few : length rows ≤ length text = t.few in
      let size = ap length grown ∙ length-append text (visible_text (slice_range es r.from r.to)) in
      let more : length text < length text' =
      ⊎_elim (λ (less : length text < length text'). less) (λ (ge : length text' ≤ length text). absurd (grew (omega (arith, size, ge)))) (cases_lt (length text) (length text'))
      in
      record {
        order = omega arith;
        shown = t.shown ++ more_of r.format (slice_range es r.from r.to);
        drawn = drawn_range es r.format t.shown low r.from r.to first (omega arith) t.drawn;
        formatted =
            λ ops h m.
            All-append (λ s. IsFormat ops s.id s.format) t.shown (more_of r.format (slice_range es r.from r.to)) (t.formatted ops h m)
            (all_as (λ s. IsFormat ops s.id s.format) r.format (filter is_visible (slice_range es r.from r.to))
            (λ j x g.
            let at = filter_from is_visible (slice_range es r.from r.to) j x g in
            let k = in_range es r.from r.to at.0 x at.1 in
            of ops k.0 x h m k.1 k.2 k.3));
        draft = draft;
        spelt = spelt_on es low r.from r.to text text' first (omega arith) t.spelt grown;
        few = omega (arith, few, more, count);
      }

-- the first one
pub taken_first : (es : List Element) (marks : List Op) (r : FormattedRange) (text : List ℕ) (rows : List Row) → r.from < r.to → IsOfFormat es marks r → text ≡ visible_text (slice_range es r.from r.to) → (length text ≡ 0 → ⊥)
    → IsDraft (more_of r.format (slice_range es r.from r.to)) text rows → length rows ≤ 1 → IsTaken es marks r.from r.to text rows
unfolding taken_none
taken_first es marks r text rows some of spelt grew draft count =
    taken_more es marks r [] text [] some of spelt r.from (taken_none es marks r.from) (λ same. grew (sym same)) rows draft (omega arith)

-- ---- the whole
pub drafted_whole : (elements : List Element) (low place : ℕ) (shown : List Shown) (text : List ℕ) (rows : List Row) → length (visible_text elements) ≤ 131072 → IsDraft shown text rows
    → text ≡ visible_text (slice_range elements low place) → length rows ≤ length text → IsWhole text rows
drafted_whole elements low place shown text rows limit d is few =
    let spelt = ap length is in
    let part = range_bytes elements low place in
    let short : length text ≤ 131072 = omega (arith, spelt, part, limit) in
    record {
      layout = layout_back d.spans text rows d.layout;
      limits = record {
        short = short;
        few = omega (arith, short, few);
        ordered = subst (λ r. All (λ row. row.start ≤ row.end) r) (sym d.layout.end_to_end) (rows_ordered 0 d.spans);
        starts =
            subst (λ r. All (λ row. IsCharBoundary text row.start) r) (sym d.layout.end_to_end)
            (subst (λ x. All (λ row. IsCharBoundary x row.start) (rows_from 0 d.spans)) (sym d.layout.whole) (cut_starts d.spans d.texts));
        ends =
            subst (λ r. All (λ row. IsCharBoundary text row.end) r) (sym d.layout.end_to_end)
            (subst (λ x. All (λ row. IsCharBoundary x row.end) (rows_from 0 d.spans)) (sym d.layout.whole) (cut_ends d.spans d.texts));
      };
      counted =
          subst (λ r. All (λ row. row.characters ≡ length (chars (slice_range text row.start row.end))) r) (sym d.layout.end_to_end)
          (subst (λ x. All (λ row. row.characters ≡ length (chars (slice_range x row.start row.end))) (rows_from 0 d.spans)) (sym d.layout.whole) (cut_counts d.spans));
    }

pub taken_whole : (elements : List Element) (marks : List Op) (low place : ℕ) (text : List ℕ) (rows : List Row) → length (visible_text elements) ≤ 131072 → IsTaken elements marks low place text rows → IsWhole text rows
taken_whole elements marks low place text rows limit t = drafted_whole elements low place t.shown text rows limit t.draft t.spelt t.few

pub taken_window : (elements : List Element) (marks : List Op) (low place high : ℕ) (text : List ℕ) (rows : List Row) → place ≡ high → IsTaken elements marks low place text rows → IsFlattened elements marks low high (record { text = text; rows = rows })
taken_window elements marks low place high text rows end t =
    let d = t.draft in
    record {
      shown = t.shown;
      drawn = subst (λ n. AreDrawn (slice_range elements low n) t.shown) end t.drawn;
      formatted = λ ops h m s held. All-contains (λ z. IsFormat ops z.id z.format) t.shown s (t.formatted ops h m) held;
      cut = subst (λ s. Cuts t.shown s) (sym (spans_back d.spans text rows d.layout)) d.cut;
    }

-- the window of all places is a version
pub window_version : (elements : List Element) (marks : List Op) (high number : ℕ) (text : List ℕ) (rows : List Row) → high ≡ length elements → IsWhole text rows → IsFlattened elements marks 0 high (record { text = text; rows = rows }) → (ops : List Op) → Shows elements ops → AreMarks ops marks → IsVersion ops number (record { number = number; text = text; rows = rows })
window_version elements marks high number text rows end whole is ops h m =
    let upto : high - 0 ≡ high = omega arith in
    let all : slice_range elements 0 high ≡ elements = ap (λ n. take n elements) upto ∙ take_all high elements (omega (arith, end)) in
    let drawn : AreDrawn elements is.shown = subst (λ l. AreDrawn l is.shown) all is.drawn in
    record {
      numbered = refl;
      spans = (is.shown, shown_visible ops elements is.shown h.text drawn (all_contained (λ s. IsFormat ops s.id s.format) is.shown (is.formatted ops h m)), is.cut);
      layout = whole.layout;
    }

-- the same of equal elements and marks
pub taken_along : (es fs : List Element) (marks held : List Op) (low place : ℕ) (text : List ℕ) (rows : List Row) → fs ≡ es → held ≡ marks → IsTaken es marks low place text rows → IsTaken fs held low place text rows
taken_along es fs marks held low place text rows along same t = subst (λ (l : List Element). IsTaken l held low place text rows) (sym along) (subst (λ (ms : List Op). IsTaken es ms low place text rows) (sym same) t)

pub last_along : (es fs : List Element) (marks held : List Op) (place : ℕ) (rows : List Row) → fs ≡ es → held ≡ marks → IsLastFormat es marks place rows → IsLastFormat fs held place rows
last_along es fs marks held place rows along same t = subst (λ (l : List Element). IsLastFormat l held place rows) (sym along) (subst (λ (ms : List Op). IsLastFormat es ms place rows) (sym same) t)
