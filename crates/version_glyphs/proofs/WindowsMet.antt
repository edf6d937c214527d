-- A version in which windows were put in place of what was visible in several ranges of elements is one of all operations.
use Rattle.std.proofs.Common.{◌≡◌, ℕ, ◌+◌, ◌-◌, ◌<◌, ◌≤◌, cond, List, [], ◌∷◌, ◌++◌, Some, inl, inr, length, map, take, drop, refl, sym, ap, subst, ◌∙◌, arith, append_assoc, length-append, ⊎_elim, All, IsUtf8}
use Rattle.std.specs.List.{slice_get, slice_range, Contains, count_by}
use Rattle.std.proofs.Math.Seq.{drop-append-add, drop-append_seam, take-add, take-append_seam}
use Rattle.std.proofs.lemmas.List.{length-map, map-append, take-append-drop}
use Rattle.std.proofs.lemmas.List.Elements.{All-cons, All-nil, Contains-append_cases, Contains-append_left, Contains-append_right}
use Rattle.std.proofs.lemmas.List.Folds.{drop_split}
use Rattle.std.proofs.lemmas.List.Sums.{sum_by-append}
use Rattle.change_ops.specs.declared.operation.Op.{Op}
use Rattle.change_ops.specs.declared.size.Size.{Size}
use Rattle.char_sequence.specs.declared.sequence.Element.{Element}
use Rattle.char_sequence.specs.Acceptance.{AcceptsAll}
use Rattle.char_sequence.specs.Order.{IsAt, Shows}
use Rattle.char_sequence.specs.Visible.{visible_text}
use Rattle.mark_anchors.specs.Format.{IsFormat}
use Rattle.mark_anchors.specs.Formatting.{Format}
use Rattle.mark_anchors.specs.Marks.{AreMarks}
use Rattle.mark_places.specs.declared.range.PlaceRange.{PlaceRange}
use Rattle.mark_places.specs.PlaceRanges.{AreApart}
use Rattle.span_flatten.specs.Spans.{Shown, Span, AreSpans}
use Rattle.span_flatten.specs.Taken.{AreDrawn, is_visible}
use Rattle.span_flatten.specs.Version.{IsWhole, spans_in}
use Rattle.span_flatten.specs.Window.{IsFlattened}
use Rattle.version_laws.specs.Ranges.{AreChangedWithin, TouchesOneOf}
use Rattle.version_laws.proofs.DrawnKept.{drawn_append, drawn_count, drawn_visible}
use Rattle.version_laws.proofs.DrawnBack.{visible_drawn}
use Rattle.version_laws.specs.Ranges.{LiesOutside}
use Rattle.version_laws.proofs.Ranging.{before_all, format_between}
use Rattle.version_laws.proofs.Rising.{get_drop, get_take}
use Rattle.version_laws.proofs.WindowKept.{drawn_at}
use Rattle.version_glyphs.specs.declared.replacement.Replacement.{Replacement}
use Rattle.version_glyphs.specs.Glyphs.{Glyph, AreMaximal, glyph_of, glyphs, text_of}
use Rattle.version_glyphs.specs.Replacements.{AreInOrder, AreReplacements, HasMaximalSpans, glyphs_in, put, put_all}
use Rattle.version_glyphs.proofs.Contents.{scalars_cut, texts_of}
use Rattle.version_glyphs.proofs.Glyphs.{cuts_from_maximal, maximal_from_cuts}
use Rattle.version_glyphs.proofs.Made.{texts_in}
use Rattle.version_glyphs.proofs.Meeting.{Around, around, glyphs_counted, seen_glyphs}
use Rattle.version_glyphs.proofs.Spelling.{text_drawn}

-- ---- lists
-- what stands behind others is replaced behind them
put_behind : {X : Type 0} (head middle tail new : List X) (from to : ℕ) → from ≡ length head → to ≡ length head + length middle
    → take from (head ++ (middle ++ tail)) ++ (new ++ drop to (head ++ (middle ++ tail))) ≡ head ++ (new ++ tail)
put_behind {X} head middle tail new from to f t =
    let front : take from (head ++ (middle ++ tail)) ≡ head = ap (λ (n : ℕ). take n (head ++ (middle ++ tail))) f ∙ take-append_seam head (middle ++ tail) in
    let back : drop to (head ++ (middle ++ tail)) ≡ tail =
    ap (λ (n : ℕ). drop n (head ++ (middle ++ tail))) t ∙ drop-append-add head (middle ++ tail) (length middle) ∙ drop-append_seam middle tail in
    ap (λ (l : List X). l ++ (new ++ drop to (head ++ (middle ++ tail)))) front ∙ ap (λ (l : List X). head ++ (new ++ l)) back

regroup : {X : Type 0} (a k o r : List X) → a ++ (k ++ (o ++ r)) ≡ (a ++ (k ++ o)) ++ r
regroup a k o r = simp append_assoc

ungroup : {X : Type 0} (a k o r : List X) → (a ++ (k ++ o)) ++ r ≡ (a ++ k) ++ (o ++ r)
ungroup a k o r = simp append_assoc

abbrev visible : List Element → ℕ
visible es = count_by is_visible es

visible_upto : (es : List Element) (a b : ℕ) → a ≤ b → visible (take b es) ≡ visible (take a es) + visible (slice_range es a b)
visible_upto es a b le =
    let whole : b ≡ a + (b - a) = omega arith in
    ap (λ n. visible (take n es)) whole ∙ ap visible (take-add a (b - a) es) ∙ sum_by-append (λ (e : Element). cond e.visible 1 0) (take a es) (slice_range es a b)

visible_all : (es : List Element) (a : ℕ) → visible (take a es) ≤ visible es
visible_all es a =
    let parted : visible es ≡ visible (take a es) + visible (drop a es) =
    ap visible (sym (take-append-drop a es)) ∙ sum_by-append (λ (e : Element). cond e.visible 1 0) (take a es) (drop a es) in
    omega arith

-- ---- each window's spans are runs of the characters that it shows
pub windows_maximal : (old new : List Element) (marks : List Op) (os ns : List PlaceRange) (ws : List Replacement) → AreReplacements old new marks os ns ws → All HasMaximalSpans ws
windows_maximal old new marks [] [] [] are = All-nil HasMaximalSpans
windows_maximal old new marks [] [] (w ∷ ws) are = absurd are
windows_maximal old new marks [] (n ∷ ns) ws are = absurd are
windows_maximal old new marks (o ∷ os) [] ws are = absurd are
windows_maximal old new marks (o ∷ os) (n ∷ ns) [] are = absurd are
windows_maximal old new marks (o ∷ os) (n ∷ ns) (w ∷ ws) (from, to, flat, whole, utf8, rest) =
    let spans : List Span = spans_in w.window.text w.window.rows in
    let texts = texts_in w.window.text w.window.rows utf8 whole.limits.ordered whole.limits.starts whole.limits.ends in
    All-cons HasMaximalSpans w ws
    (maximal_from_cuts spans flat.shown texts (scalars_cut spans flat.shown texts flat.cut) flat.cut).0
    (windows_maximal old new marks os ns ws rest)

-- ---- the windows stand one behind another
order_from : (old new : List Element) (marks : List Op) (os ns : List PlaceRange) (ws : List Replacement) (a b end : ℕ) → AreChangedWithin old new os ns a b → AreReplacements old new marks os ns ws → visible old ≤ end → AreInOrder ws (visible (take a old)) end
order_from old new marks [] [] [] a b end are windows within = let upto = visible_all old a in omega arith
order_from old new marks [] [] (w ∷ ws) a b end are windows within = absurd windows
order_from old new marks [] (n ∷ ns) ws a b end are windows within = absurd are
order_from old new marks (o ∷ os) [] ws a b end are windows within = absurd are
order_from old new marks (o ∷ os) (n ∷ ns) [] a b end are windows within = absurd windows
order_from old new marks (o ∷ os) (n ∷ ns) (w ∷ ws) a b end are windows within =
    let from : w.from ≡ visible (take o.low old) = windows.0 in
    let to : w.to ≡ visible (take o.high old) = windows.1 in
    let before = visible_upto old a o.low are.0 in
    let inside = visible_upto old o.low o.high are.1 in (
      omega arith,
      omega arith,
      subst (λ n. AreInOrder ws n end) (sym to) (order_from old new marks os ns ws o.high n.high end are.3 windows.5 within),
    )

-- ---- what is shown after the change
module _ {size : Size} (ops added marks : List Op) (old new : List Element) (all : AcceptsAll size ops added) (later : Shows new (ops ++ added)) (held : AreMarks (ops ++ added) marks) where
  -- each character has its format
  abbrev AreFormatted : List Op → List Shown → Type 0
  AreFormatted operations shown = (s : Shown) → Contains shown s → IsFormat operations s.id s.format

  -- an element from a place on that lies outside the ranges has the format that it had
  abbrev AreSame : List PlaceRange → ℕ → Type 0
  AreSame ns b = (i : ℕ) (e : Element) → slice_get new i ≡ Some e → b ≤ i → LiesOutside ns i → (f : Format) → IsFormat ops e.id f → IsFormat (ops ++ added) e.id f

  kept_at : (ns : List PlaceRange) (b : ℕ) → AreSame ns b → (s : Shown) (i : ℕ) → IsAt new s.id i → b ≤ i → LiesOutside ns i → IsFormat ops s.id s.format → IsFormat (ops ++ added) s.id s.format
  kept_at ns b same s i (e, g, is) from out was =
      subst (λ x. IsFormat (ops ++ added) x s.format) is (same i e g from out s.format (subst (λ x. IsFormat ops x s.format) (sym is) was))

  kept_behind : (b : ℕ) (shown : List Shown) → AreSame [] b → AreDrawn (drop b new) shown → AreFormatted ops shown → AreFormatted (ops ++ added) shown
  kept_behind b shown same drawn was s there =
      let at = drawn_at (drop b new) shown drawn s there in
      kept_at [] b same s (b + at.0) (at.1.0, sym (get_drop b new at.0) ∙ at.1.1, at.1.2) (omega arith) tt (was s there)

  kept_before : (n : PlaceRange) (ns : List PlaceRange) (b : ℕ) (shown : List Shown) → AreApart (n ∷ ns) b (length new) → AreSame (n ∷ ns) b → AreDrawn (slice_range new b n.low) shown → AreFormatted ops shown → AreFormatted (ops ++ added) shown
  kept_before n ns b shown apart same drawn was s there =
      let at = drawn_at (slice_range new b n.low) shown drawn s there in
      let r = get_take (n.low - b) (drop b new) at.0 at.1.0 at.1.1 in
      let less : at.0 < n.low - b = r.0 in
      let order : n.low ≤ n.high = apart.1 in
      kept_at (n ∷ ns) b same s (b + at.0) (at.1.0, sym (get_drop b new at.0) ∙ r.1, at.1.2) (omega arith)
      (inl (omega arith), before_all ns n.high (length new) (b + at.0) apart.2 (omega arith)) (was s there)

  -- the characters that the windows make of those from a place on
  pub record ArePut (windows : List Replacement) (ahead : List Glyph) (shown : List Shown) (b : ℕ) : Type 0 where
    pub made : List Shown
    pub drawn : AreDrawn (drop b new) made
    pub formatted : AreFormatted (ops ++ added) made
    pub placed : put_all windows (ahead ++ map glyph_of shown) ≡ ahead ++ map glyph_of made

  -- one window more
  put_one : (o n : PlaceRange) (ns : List PlaceRange) (w : Replacement) (ws : List Replacement) (a b : ℕ) (ahead : List Glyph) (shown : List Shown) (parts : Around (slice_range old a o.low) (slice_range old o.low o.high) (drop o.high old) shown)
      → a ≤ o.low → o.low ≤ o.high → slice_range old a o.low ≡ slice_range new b n.low → w.from ≡ visible (take o.low old) → w.to ≡ visible (take o.high old)
      → (flat : IsFlattened new marks n.low n.high w.window) → All (λ s. IsUtf8 s.text) (spans_in w.window.text w.window.rows)
      → AreApart (n ∷ ns) b (length new) → AreSame (n ∷ ns) b → length ahead ≡ visible (take a old) → AreFormatted ops parts.front
      → ArePut ws (ahead ++ (map glyph_of parts.front ++ map glyph_of parts.mid)) parts.back n.high → ArePut (w ∷ ws) ahead shown b
  put_one o n ns w ws a b ahead shown parts from order kept w_from w_to flat texts apart same size_ahead was rest =
      let front : List Glyph = map glyph_of parts.front in
      let middle : List Glyph = map glyph_of parts.mid in
      let tail : List Glyph = map glyph_of rest.made in
      let made : List Shown = parts.front ++ (flat.shown ++ rest.made) in
      let size_front : length front ≡ visible (slice_range old a o.low) = length-map parts.front glyph_of ∙ drawn_count (slice_range old a o.low) parts.front parts.drawn_front in
      let size_middle : length middle ≡ visible (slice_range old o.low o.high) = length-map parts.mid glyph_of ∙ drawn_count (slice_range old o.low o.high) parts.mid parts.drawn_mid in
      let upto_low = visible_upto old a o.low from in
      let upto_high = visible_upto old o.low o.high order in
      let drawn_front : AreDrawn (slice_range new b n.low) parts.front = subst (λ l. AreDrawn l parts.front) kept parts.drawn_front in
      let whole : drop b new ≡ slice_range new b n.low ++ (slice_range new n.low n.high ++ drop n.high new) =
      drop_split new b n.low apart.0 ∙ ap (λ l. slice_range new b n.low ++ l) (drop_split new n.low n.high apart.1) in
      let inside : AreDrawn (slice_range new n.low n.high ++ drop n.high new) (flat.shown ++ rest.made) =
      drawn_append (slice_range new n.low n.high) (drop n.high new) flat.shown rest.made flat.drawn rest.drawn in
      let seen : glyphs_in w ≡ map glyph_of flat.shown = seen_glyphs flat.shown (spans_in w.window.text w.window.rows) texts flat.cut in
      let told : ahead ++ map glyph_of shown ≡ (ahead ++ (front ++ middle)) ++ map glyph_of parts.back =
      ap (λ l. ahead ++ map glyph_of l) parts.parts
      ∙ ap (λ l. ahead ++ l) (map-append glyph_of parts.front (parts.mid ++ parts.back) ∙ ap (λ l. front ++ l) (map-append glyph_of parts.mid parts.back))
      ∙ regroup ahead front middle (map glyph_of parts.back) in
      let spelt : map glyph_of made ≡ front ++ (map glyph_of flat.shown ++ tail) =
      map-append glyph_of parts.front (flat.shown ++ rest.made) ∙ ap (λ l. front ++ l) (map-append glyph_of flat.shown rest.made) in
      record {
        made = made;
        drawn = subst (λ l. AreDrawn l made) (sym whole) (drawn_append (slice_range new b n.low) (slice_range new n.low n.high ++ drop n.high new) parts.front (flat.shown ++ rest.made) drawn_front inside);
        formatted =
            λ s there.
            ⊎_elim
            (λ (u : Contains parts.front s). kept_before n ns b parts.front apart same drawn_front was s u)
            (λ (u : Contains (flat.shown ++ rest.made) s).
            ⊎_elim
            (λ (v : Contains flat.shown s). flat.formatted (ops ++ added) later held s v)
            (λ (v : Contains rest.made s). rest.formatted s v)
            (Contains-append_cases flat.shown rest.made s u))
            (Contains-append_cases parts.front (flat.shown ++ rest.made) s there);
        placed =
            ap (λ l. put w (put_all ws l)) told ∙ ap (put w) (rest.placed ∙ ungroup ahead front middle tail)
            ∙ put_behind (ahead ++ front) middle tail (glyphs_in w) w.from w.to (omega (arith, length-append ahead front)) (omega (arith, length-append ahead front))
            ∙ append_assoc ahead front (glyphs_in w ++ tail) ∙ ap (λ l. ahead ++ (front ++ (l ++ tail))) seen ∙ ap (λ l. ahead ++ l) (sym spelt);
      }

  put_from : (os ns : List PlaceRange) (ws : List Replacement) (a b : ℕ) (ahead : List Glyph) (shown : List Shown) → AreChangedWithin old new os ns a b → AreReplacements old new marks os ns ws → AreApart ns b (length new)
      → AreSame ns b → length ahead ≡ visible (take a old) → AreDrawn (drop a old) shown → AreFormatted ops shown → ArePut ws ahead shown b
  put_from [] [] [] a b ahead shown are windows apart same size_ahead drawn was =
      let drawn_new : AreDrawn (drop b new) shown = subst (λ l. AreDrawn l shown) are.1 drawn in
      record { made = shown; drawn = drawn_new; formatted = kept_behind b shown same drawn_new was; placed = refl }
  put_from [] [] (w ∷ ws) a b ahead shown are windows apart same size_ahead drawn was = absurd windows
  put_from [] (n ∷ ns) ws a b ahead shown are windows apart same size_ahead drawn was = absurd are
  put_from (o ∷ os) [] ws a b ahead shown are windows apart same size_ahead drawn was = absurd are
  put_from (o ∷ os) (n ∷ ns) [] a b ahead shown are windows apart same size_ahead drawn was = absurd windows
  put_from (o ∷ os) (n ∷ ns) (w ∷ ws) a b ahead shown are windows apart same size_ahead drawn was =
      let kept : List Element = slice_range old a o.low in
      let middle : List Element = slice_range old o.low o.high in
      let last : List Element = drop o.high old in
      let whole : drop a old ≡ kept ++ (middle ++ last) = drop_split old a o.low are.0 ∙ ap (λ l. kept ++ l) (drop_split old o.low o.high are.1) in
      let parts : Around kept middle last shown = around kept middle last shown (subst (λ l. AreDrawn l shown) whole drawn) in
      let front : List Glyph = map glyph_of parts.front in
      let mid : List Glyph = map glyph_of parts.mid in
      let size_front : length front ≡ visible kept = length-map parts.front glyph_of ∙ drawn_count kept parts.front parts.drawn_front in
      let size_mid : length mid ≡ visible middle = length-map parts.mid glyph_of ∙ drawn_count middle parts.mid parts.drawn_mid in
      let upto_low = visible_upto old a o.low are.0 in
      let upto_high = visible_upto old o.low o.high are.1 in
      let begins : b ≤ n.low = apart.0 in
      let order : n.low ≤ n.high = apart.1 in
      let is_whole : IsWhole w.window.text w.window.rows = windows.3 in
      let texts = texts_in w.window.text w.window.rows windows.4 is_whole.limits.ordered is_whole.limits.starts is_whole.limits.ends in
      let was_front : AreFormatted ops parts.front = λ s h. was s (subst (λ l. Contains l s) (sym parts.parts) (Contains-append_left parts.front (parts.mid ++ parts.back) s h)) in
      let was_back : AreFormatted ops parts.back =
      λ s h. was s (subst (λ l. Contains l s) (sym parts.parts) (Contains-append_right parts.front (parts.mid ++ parts.back) s (Contains-append_right parts.mid parts.back s h))) in
      put_one o n ns w ws a b ahead shown parts are.0 are.1 are.2 windows.0 windows.1 windows.2 texts apart same size_ahead was_front
      (put_from os ns ws o.high n.high (ahead ++ (front ++ mid)) parts.back are.3 windows.5 apart.2 (λ i e g from out. same i e g (omega arith) (inr from, out))
      (omega (arith, length-append ahead (front ++ mid), length-append front mid)) parts.drawn_back was_back)

-- ---- a version
module _ {size : Size} (ops added : List Op) (old new : List Element) (olds ranges : List PlaceRange) (windows : List Replacement) (marks : List Op)
    (shows : Shows old ops) (all : AcceptsAll size ops added) (later : Shows new (ops ++ added)) (held : AreMarks (ops ++ added) marks)
    (apart : AreApart ranges 0 (length new)) (touched : (o : Op) → Contains added o → TouchesOneOf (ops ++ added) new ranges o)
    (changed : AreChangedWithin old new olds ranges 0 0) (are : AreReplacements old new marks olds ranges windows)
    (now : List Span) (maximal : AreMaximal now) (spans : AreSpans ops now) where
  -- the windows' places follow one another
  pub windows_in_order : AreInOrder windows 0 (length (glyphs now))
  windows_in_order =
      let count : length (glyphs now) ≡ visible old = glyphs_counted ops old shows now maximal spans in
      order_from old new marks olds ranges windows 0 0 (length (glyphs now)) changed are (omega arith)

  windows_put : ArePut ops added marks old new all later held windows [] spans.0 0
  windows_put =
      put_from ops added marks old new all later held olds ranges windows 0 0 [] spans.0 changed are apart
      (λ i e g from out f. (format_between ops added old new ranges shows all later touched i e g out f).0)
      refl (visible_drawn ops old spans.0 shows spans.1) spans.1.formatted

  glyphs_put : put_all windows (glyphs now) ≡ map glyph_of windows_put.made
  glyphs_put = ap (put_all windows) (seen_glyphs spans.0 now (texts_of now maximal) spans.2) ∙ windows_put.placed

  -- with the windows in place the characters spell the visible text
  pub text_put : text_of (put_all windows (glyphs now)) ≡ visible_text new
  text_put = ap text_of glyphs_put ∙ text_drawn new windows_put.made windows_put.drawn

  -- maximal spans of those characters are the spans of all operations
  pub spans_put : (next : List Span) → AreMaximal next → glyphs next ≡ put_all windows (glyphs now) → AreSpans (ops ++ added) next
  spans_put next m same = (
    windows_put.made,
    drawn_visible (ops ++ added) new windows_put.made later windows_put.drawn windows_put.formatted,
    cuts_from_maximal next windows_put.made m (same ∙ glyphs_put),
  )
