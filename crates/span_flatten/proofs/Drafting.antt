-- A text with its rows while its characters are taken in.
use Rattle.std.proofs.Common.{◌≡◌, ℕ, ◌+◌, ◌-◌, ◌<◌, List, [], ◌∷◌, ◌++◌, length, set, get_or, refl, sym, ap, subst, ◌∙◌, arith, append_assoc, length-append, All, IsUtf8}
use Rattle.std.proofs.lemmas.List.Elements.{All-push, All-cons, All-head, All-tail, All-contains, Contains-push}
use Rattle.std.specs.Str.{chars}
use Rattle.std.proofs.lemmas.Str.{IsUtf8-append, chars-append}
use Rattle.std.proofs.lemmas.List.{length_push, length-set, get_or_push, get_or-set_same, set_at, get_or_default}
use Rattle.mark_anchors.specs.Formatting.{Format}
use Rattle.span_flatten.specs.declared.version.Row.{Row}
use Rattle.span_flatten.specs.Spans.{Shown, Span, Cuts}
use Rattle.span_flatten.specs.Version.{joined, rows_from, IsLayout, IsPiece, IsDraft}
use Rattle.span_flatten.proofs.Cutting.{cuts_fresh, cuts_longer}
use Rattle.span_flatten.proofs.Laying.{joined-push, rows_from-push, length-rows_from}

-- a list that is not empty has a last element
last_of : {X : Type 0} (xs : List X) → 0 < length xs → (front : List X) × ((last : X) × (xs ≡ front ++ last ∷ []))
last_of [] some = absurd (omega arith)
last_of (x ∷ []) some = ([], (x, refl))
last_of (x ∷ (y ∷ ys)) some =
    let r = last_of (y ∷ ys) (omega arith) in
    (x ∷ r.0, (r.1.0, ap (λ l. x ∷ l) r.1.1))

-- the last row of spans
abbrev row_at : ℕ → Span → Row
row_at start span = record { start = start; end = start + length span.text; characters = length (chars span.text); format = span.format }

same_rows : (a b : Row) → a.start ≡ b.start → a.end ≡ b.end → a.characters ≡ b.characters → a.format ≡ b.format → a ≡ b
same_rows a b start end characters format = λ i. record { start = start i; end = end i; characters = characters i; format = format i }

last_row : (front : List Span) (last : Span) (text : List ℕ) (rows : List Row) → IsLayout (front ++ last ∷ []) text rows → rows ≡ rows_from 0 front ++ row_at (length (joined front)) last ∷ []
last_row front last text rows l = l.end_to_end ∙ rows_from-push 0 front last (length (joined front)) (omega arith)

count_row : (front : List Span) (last : Span) (text : List ℕ) (rows : List Row) (count : ℕ) → IsLayout (front ++ last ∷ []) text rows → count ≡ length rows → length (rows_from 0 front) ≡ count - 1
count_row front last text rows count l counted =
    let row : Row = row_at (length (joined front)) last in
    omega (arith, ap length (last_row front last text rows l), length_push (rows_from 0 front) row)

read_row : (front : List Span) (last : Span) (text : List ℕ) (rows : List Row) (count : ℕ) (d : Row) → IsLayout (front ++ last ∷ []) text rows → count ≡ length rows → get_or rows (count - 1) d ≡ row_at (length (joined front)) last
read_row front last text rows count d l counted =
    let row : Row = row_at (length (joined front)) last in
    ap (λ r. get_or r (count - 1) d) (last_row front last text rows l)
    ∙ get_or_push (rows_from 0 front) row d (count - 1) (count_row front last text rows count l counted)

front_of : (front : List Span) (last : Span) → All (λ s. IsUtf8 s.text) (front ++ last ∷ []) → All (λ s. IsUtf8 s.text) front
front_of [] last all = λ k d h. absurd (omega arith)
front_of (x ∷ xs) last all =
    All-cons (λ s. IsUtf8 s.text) x xs (All-head (λ s. IsUtf8 s.text) x (xs ++ last ∷ []) all) (front_of xs last (All-tail (λ s. IsUtf8 s.text) x (xs ++ last ∷ []) all))

-- the last row is lengthened
pub draft_longer : (shown : List Shown) (spans : List Span) (text text' : List ℕ) (rows : List Row) (count : ℕ) (was kept now : Row) (more : List Shown) (piece : Span) → Cuts shown spans → IsLayout spans text rows → All (λ s. IsUtf8 s.text) spans → count ≡ length rows → 0 < count → was ≡ get_or rows (count - 1) was → kept ≡ get_or rows (count - 1) kept → IsPiece more piece → was.format ≡ piece.format → text' ≡ text ++ piece.text → now.start ≡ kept.start → now.end ≡ length text' → now.characters ≡ kept.characters + length (chars piece.text) → now.format ≡ kept.format → IsDraft (shown ++ more) text' (set rows (count - 1) now)
draft_longer shown spans text text' rows count was kept now more piece cut layout texts counted some reads reads' is same grown start end characters format =
    let split = last_of spans (omega (arith, length-rows_from 0 spans, ap length layout.end_to_end)) in
    let front : List Span = split.0 in
    let last : Span = split.1.0 in
    let bytes : List ℕ = piece.text in
    let layout' : IsLayout (front ++ last ∷ []) text rows = subst (λ z. IsLayout z text rows) split.1.1 layout in
    let texts' : All (λ s. IsUtf8 s.text) (front ++ last ∷ []) = subst (λ (z : List Span). All (λ s. IsUtf8 s.text) z) split.1.1 texts in
    let read = reads ∙ read_row front last text rows count was layout' counted in
    let read' = reads' ∙ read_row front last text rows count kept layout' counted in
    let utf8 : IsUtf8 last.text = All-contains (λ s. IsUtf8 s.text) (front ++ last ∷ []) last texts' (Contains-push front last) in
    let grew : Span = record { text = last.text ++ bytes; format = last.format } in
    let whole : text' ≡ joined front ++ (last.text ++ bytes) =
    grown ∙ ap (λ t. t ++ bytes) (layout'.whole ∙ joined-push front last) ∙ append_assoc (joined front) last.text bytes in
    let row : Row = row_at (length (joined front)) last in
    let longer : Row = row_at (length (joined front)) grew in
    let is_row : now ≡ longer =
    same_rows now longer (start ∙ ap (λ r. r.start) read') (end ∙ ap length whole ∙ length-append (joined front) (last.text ++ bytes))
    (characters ∙ ap (λ r. r.characters + length (chars bytes)) read' ∙ sym (ap length (chars-append last.text bytes utf8) ∙ length-append (chars last.text) (chars bytes)))
    (format ∙ ap (λ r. r.format) read') in
    record {
      spans = front ++ grew ∷ [];
      cut = cuts_longer shown front last grew more piece (subst (λ z. Cuts shown z) split.1.1 cut) is (sym (ap (λ r. r.format) read) ∙ same) refl refl;
      layout = record {
        whole = whole ∙ sym (joined-push front grew);
        end_to_end =
            ap (λ r. set r (count - 1) now) (last_row front last text rows layout')
            ∙ set_at (rows_from 0 front) row [] now (count - 1) (count_row front last text rows count layout' counted)
            ∙ ap (λ r. rows_from 0 front ++ r ∷ []) is_row ∙ sym (rows_from-push 0 front grew (length (joined front)) (omega arith));
      };
      texts = All-push (λ s. IsUtf8 s.text) front grew (front_of front last texts') (IsUtf8-append last.text bytes utf8 is.utf8);
    }

-- the last row has another format
pub other_last : (rows : List Row) (count : ℕ) (was : Row) (f : Format) → count ≡ length rows → was ≡ get_or rows (count - 1) was → (was.format ≡ f → ⊥) → (d : Row) → 0 < length rows → (get_or rows (length rows - 1) d).format ≡ f → ⊥
other_last rows count was f counted reads other d some same =
    let last_is : count - 1 ≡ length rows - 1 = ap (λ n. n - 1) counted in
    other (ap (λ r. r.format) (reads ∙ ap (λ n. get_or rows n was) last_is ∙ get_or_default rows (length rows - 1) was d (omega arith)) ∙ same)

-- a row is added
pub draft_fresh : (shown : List Shown) (spans : List Span) (text text' : List ℕ) (rows : List Row) (now : Row) (more : List Shown) (piece : Span) → Cuts shown spans → IsLayout spans text rows → All (λ s. IsUtf8 s.text) spans → ((d : Row) → 0 < length rows → (get_or rows (length rows - 1) d).format ≡ piece.format → ⊥) → IsPiece more piece → text' ≡ text ++ piece.text → now.start ≡ length text → now.end ≡ length text' → now.characters ≡ length (chars piece.text) → now.format ≡ piece.format → IsDraft (shown ++ more) text' (rows ++ now ∷ [])
draft_fresh shown spans text text' rows now more piece cut layout texts other is grown start end characters format =
    let bytes : List ℕ = piece.text in
    let row : Row = row_at (length text) piece in
    let is_row : now ≡ row = same_rows now row start (end ∙ ap length grown ∙ length-append text bytes) characters format in
    record {
      spans = spans ++ piece ∷ [];
      cut =
          cuts_fresh shown spans more piece cut
          (λ front last e same.
          let layout' : IsLayout (front ++ last ∷ []) text rows = subst (λ z. IsLayout z text rows) e layout in
          let row' : Row = row_at (length (joined front)) last in
          other row' (omega (arith, ap length (last_row front last text rows layout'), length_push (rows_from 0 front) row'))
          (ap (λ r. r.format) (read_row front last text rows (length rows) row' layout' refl) ∙ same))
          is;
      layout = record {
        whole = grown ∙ ap (λ t. t ++ bytes) layout.whole ∙ sym (joined-push spans piece);
        end_to_end =
            ap (λ r. r ++ now ∷ []) layout.end_to_end ∙ ap (λ r. rows_from 0 spans ++ r ∷ []) is_row
            ∙ sym (rows_from-push 0 spans piece (length text) (let size : length text ≡ length (joined spans) = ap length layout.whole in omega arith));
      };
      texts = All-push (λ s. IsUtf8 s.text) spans piece texts is.utf8;
    }

-- what holds of the last row's format
pub last_read : (P : Format → Type 0) (rows : List Row) (count : ℕ) (was : Row) → count ≡ length rows → 0 < count → was ≡ get_or rows (count - 1) was → ((d : Row) → 0 < length rows → P (get_or rows (length rows - 1) d).format) → P was.format
last_read P rows count was counted some reads last =
    let last_is : count - 1 ≡ length rows - 1 = ap (λ n. n - 1) counted in
    subst (λ (r : Row). P r.format) (sym (reads ∙ ap (λ n. get_or rows n was) last_is)) (last was (omega arith))

pub last_set : (P : Format → Type 0) (rows : List Row) (count : ℕ) (now : Row) → count ≡ length rows → 0 < count → P now.format → (d : Row) → 0 < length (set rows (count - 1) now) → P (get_or (set rows (count - 1) now) (length (set rows (count - 1) now) - 1) d).format
last_set P rows count now counted some is d more =
    let size : length (set rows (count - 1) now) ≡ length rows = length-set rows (count - 1) now in
    let last_is : length (set rows (count - 1) now) - 1 ≡ count - 1 = ap (λ n. n - 1) (size ∙ sym counted) in
    subst (λ (r : Row). P r.format) (sym (ap (λ n. get_or (set rows (count - 1) now) n d) last_is ∙ get_or-set_same rows (count - 1) now d (omega arith))) is

pub last_push : (P : Format → Type 0) (rows : List Row) (now : Row) → P now.format → (d : Row) → 0 < length (rows ++ now ∷ []) → P (get_or (rows ++ now ∷ []) (length (rows ++ now ∷ []) - 1) d).format
last_push P rows now is d more =
    let size = length_push rows now in
    subst (λ (r : Row). P r.format) (sym (get_or_push rows now d (length (rows ++ now ∷ []) - 1) (omega (arith, size)))) is
