-- A window that begins and ends with characters that a change leaves alone begins and ends with the formats that stood there.
use Rattle.std.proofs.Common.{◌≡◌, ℕ, zero, suc, ◌+◌, ◌-◌, ◌<◌, ◌≤◌, Bool, true, false, cond, List, [], ◌∷◌, ◌++◌, Some, length, map, take, drop, refl, sym, ap, subst, ◌∙◌, arith, length-drop, All, IsUtf8}
use Rattle.std.specs.List.{slice_get, slice_range, Contains, count_by, filter}
use Rattle.std.proofs.lemmas.Option.{same_Some, none-some, get_or_from_slice_get, slice_get_within}
use Rattle.std.proofs.lemmas.List.{length-map, length-take-le, take_all, take-take}
use Rattle.std.proofs.lemmas.List.Sums.{count_by_more_yes, sum_by-cons, sum_by-take-le}
use Rattle.change_ops.specs.declared.operation.Op.{Op}
use Rattle.change_ops.specs.declared.size.Size.{Size}
use Rattle.char_sequence.specs.declared.sequence.Element.{Element}
use Rattle.char_sequence.specs.Acceptance.{AcceptsAll}
use Rattle.char_sequence.specs.Order.{Shows}
use Rattle.mark_anchors.specs.Format.{IsFormat}
use Rattle.mark_anchors.specs.Formatting.{Format}
use Rattle.mark_anchors.specs.Marks.{AreMarks}
use Rattle.mark_anchors.specs.Ranges.{IsFormatAt}
use Rattle.mark_anchors.proofs.FormatLaws.{one_format}
use Rattle.mark_places.specs.declared.range.PlaceRange.{PlaceRange}
use Rattle.span_flatten.specs.Spans.{Shown, Span, AreSpans}
use Rattle.span_flatten.specs.Taken.{AreDrawn, element_of, is_visible}
use Rattle.span_flatten.specs.Version.{spans_in}
use Rattle.span_flatten.specs.Window.{IsFlattened}
use Rattle.span_flatten.proofs.Showing.{contains_at}
use Rattle.version_laws.specs.Ranges.{LiesOutside, TouchesOneOf}
use Rattle.version_laws.proofs.DrawnBack.{visible_drawn}
use Rattle.version_laws.proofs.DrawnKept.{drawn_count}
use Rattle.version_laws.proofs.Lists.{map_at, map_from}
use Rattle.version_laws.proofs.Ranging.{format_between}
use Rattle.version_laws.proofs.Staying.{at_range}
use Rattle.version_glyphs.specs.declared.replacement.Replacement.{Replacement}
use Rattle.version_glyphs.specs.Glyphs.{Glyph, AreMaximal, glyph_of, glyphs}
use Rattle.version_glyphs.specs.Replacements.{formats, glyphs_in}
use Rattle.version_glyphs.proofs.Contents.{texts_of}
use Rattle.version_glyphs.proofs.Meeting.{seen_glyphs}
use Rattle.version_glyphs.proofs.SameMarks.{format_across}

abbrev visible : List Element → ℕ
visible es = count_by is_visible es

-- ---- lists
-- what passes stands behind those before it that pass
filtered_at : {X : Type 0} (p : X → Bool) (xs : List X) (i : ℕ) (x : X) → slice_get xs i ≡ Some x → p x ≡ true → slice_get (filter p xs) (count_by p (take i xs)) ≡ Some x
filtered_at p [] i x g passes = absurd (none-some x g)
filtered_at p (y ∷ ys) zero x g passes =
    let here : p y ≡ true = ap p (same_Some y x g) ∙ passes in
    ap (λ b. slice_get (cond b (y ∷ filter p ys) (filter p ys)) zero) here ∙ g
filtered_at {X} p (y ∷ ys) (suc i) x g passes =
    let later = filtered_at p ys i x g passes in
    let count : count_by p (take (suc i) (y ∷ ys)) ≡ cond (p y) 1 0 + count_by p (take i ys) = sum_by-cons (λ z. cond (p z) 1 0) y (take i ys) in
    ap (slice_get (filter p (y ∷ ys))) count ∙ step (p y) later
  where
    step : (b : Bool) → slice_get (filter p ys) (count_by p (take i ys)) ≡ Some x → slice_get (cond b (y ∷ filter p ys) (filter p ys)) (cond b 1 0 + count_by p (take i ys)) ≡ Some x
    step true later = let next : 1 + count_by p (take i ys) ≡ suc (count_by p (take i ys)) = omega arith in ap (slice_get (y ∷ filter p ys)) next ∙ later
    step false later = let next : 0 + count_by p (take i ys) ≡ count_by p (take i ys) = omega arith in ap (slice_get (filter p ys)) next ∙ later

-- a visible element is one of those that are shown
shown_at : (es : List Element) (shown : List Shown) → AreDrawn es shown → (i : ℕ) (e : Element) → slice_get es i ≡ Some e → e.visible ≡ true → (s : Shown) × (slice_get shown (visible (take i es)) ≡ Some s) × (s.id ≡ e.id)
shown_at es shown drawn i e g seen =
    let place : ℕ = visible (take i es) in
    let r = map_from element_of shown place e (ap (λ l. slice_get l place) drawn ∙ filtered_at is_visible es i e g seen) in
    (r.0, r.1, ap (λ (z : Element). z.id) r.2)

-- one more is visible behind it
pub visible_more : (es : List Element) (i : ℕ) (e : Element) → slice_get es i ≡ Some e → e.visible ≡ true → visible (take (i + 1) es) ≡ visible (take i es) + 1
visible_more es i e g seen =
    count_by_more_yes is_visible es i e (slice_get_within es i e g) (ap is_visible (get_or_from_slice_get es i e e g) ∙ seen)

pub visible_upto : (es : List Element) (a b : ℕ) → a ≤ b → visible (take a es) ≤ visible (take b es)
visible_upto es a b le =
    subst (λ (l : List Element). visible l ≤ visible (take b es)) (take-take a b es le) (sum_by-take-le (λ (e : Element). cond e.visible 1 0) (take b es) a)

-- as many stand before it as there are places for
pub visible_past : (es : List Element) (a i b : ℕ) (e : Element) → slice_get es i ≡ Some e → e.visible ≡ true → a ≤ i → i < b → visible (take a es) < visible (take b es)
visible_past es a i b e g seen from to =
    let before = visible_upto es a i from in
    let more = visible_more es i e g seen in
    let upto = visible_upto es (i + 1) b (omega arith) in
    omega arith

pub visible_behind : (es : List Element) (a i : ℕ) (e : Element) → slice_get es i ≡ Some e → e.visible ≡ true → a ≤ i → visible (take a es) < visible es
visible_behind es a i e g seen from =
    subst (λ (l : List Element). visible (take a es) < visible l) (take_all (length es) es (omega arith))
    (visible_past es a i (length es) e g seen from (slice_get_within es i e g))

-- the format of a shown character stands where it does
format_at : (shown : List Shown) (characters : List Glyph) → characters ≡ map glyph_of shown → (i : ℕ) (s : Shown) → slice_get shown i ≡ Some s → slice_get (formats characters) i ≡ Some s.format
format_at shown characters same i s g =
    ap (λ (l : List Glyph). slice_get (formats l) i) same ∙ map_at (λ (z : Glyph). z.format) (map glyph_of shown) i (glyph_of s) (map_at glyph_of shown i s g)

-- ---- a window in place of a range
module _ {size : Size} (ops added marks : List Op) (old new : List Element) (inner : List PlaceRange) (shows : Shows old ops) (all : AcceptsAll size ops added) (later : Shows new (ops ++ added))
    (held : AreMarks (ops ++ added) marks) (touched : (o : Op) → Contains added o → TouchesOneOf (ops ++ added) new inner o) (now : List Span) (maximal : AreMaximal now) (spans : AreSpans ops now) where
  -- an element that the change leaves alone has one format before it and after it
  one_shown : (i : ℕ) (e : Element) → slice_get new i ≡ Some e → LiesOutside inner i → (s t : Shown) → s.id ≡ e.id → t.id ≡ e.id → IsFormat ops s.id s.format → IsFormat (ops ++ added) t.id t.format → t.format ≡ s.format
  one_shown i e g out s t of_s of_t was is =
      let kept = (format_between ops added old new inner shows all later touched i e g out s.format).0 (subst (λ x. IsFormat ops x s.format) of_s was) in
      one_format (ops ++ added) e.id t.format s.format (subst (λ x. IsFormat (ops ++ added) x t.format) of_t is) kept

  -- a visible element that the change leaves alone has the format that stands where it stood
  pub kept_format : (place at : ℕ) (e : Element) → slice_get old place ≡ Some e → slice_get new at ≡ Some e → e.visible ≡ true → LiesOutside inner at
      → (format : Format) × (slice_get (formats (glyphs now)) (visible (take place old)) ≡ Some format) × IsFormatAt new marks at format
  kept_format place at e stood stands seen out =
      let s = shown_at old spans.0 (visible_drawn ops old spans.0 shows spans.1) place e stood seen in
      let was : IsFormat ops e.id s.0.format = subst (λ x. IsFormat ops x s.0.format) s.2 (spans.1.formatted s.0 (contains_at spans.0 (visible (take place old)) s.0 s.1)) in
      let kept : IsFormat (ops ++ added) e.id s.0.format = (format_between ops added old new inner shows all later touched at e stands out s.0.format).0 was in (
        s.0.format,
        format_at spans.0 (glyphs now) (seen_glyphs spans.0 now (texts_of now maximal) spans.2) (visible (take place old)) s.0 s.1,
        λ others f shown are g.
            let same : e ≡ f = same_Some e f (sym stands ∙ g) in
            subst (λ (x : Element). IsFormat others x.id s.0.format) same
            (format_across new marks (ops ++ added) others later held shown are e.id at (e, stands, refl) s.0.format kept),
      )

  module _ (o n : PlaceRange) (r : Replacement) (from : r.from ≡ visible (take o.low old)) (to : r.to ≡ visible (take o.high old)) (flat : IsFlattened new marks n.low n.high r.window) (texts : All (λ s. IsUtf8 s.text) (spans_in r.window.text r.window.rows)) where
    -- a visible element of the range that the change leaves alone shows one format in the window and where it stood
    one_edge : (place at : ℕ) (e : Element) → slice_get old place ≡ Some e → slice_get new at ≡ Some e → e.visible ≡ true → LiesOutside inner at → n.low ≤ at → at < n.high
        → (format : Format) × (slice_get (formats (glyphs now)) (visible (take place old)) ≡ Some format) × (slice_get (formats (glyphs_in r)) (visible (take (at - n.low) (slice_range new n.low n.high))) ≡ Some format)
    one_edge place at e stood stands seen out low high =
        let s = shown_at old spans.0 (visible_drawn ops old spans.0 shows spans.1) place e stood seen in
        let t = shown_at (slice_range new n.low n.high) flat.shown flat.drawn (at - n.low) e (at_range new n.low n.high at low high ∙ stands) seen in
        let same : t.0.format ≡ s.0.format =
        one_shown at e stands out s.0 t.0 s.2 t.2 (spans.1.formatted s.0 (contains_at spans.0 (visible (take place old)) s.0 s.1))
        (flat.formatted (ops ++ added) later held t.0 (contains_at flat.shown (visible (take (at - n.low) (slice_range new n.low n.high))) t.0 t.1)) in (
          s.0.format,
          format_at spans.0 (glyphs now) (seen_glyphs spans.0 now (texts_of now maximal) spans.2) (visible (take place old)) s.0 s.1,
          format_at flat.shown (glyphs_in r) (seen_glyphs flat.shown (spans_in r.window.text r.window.rows) texts flat.cut) (visible (take (at - n.low) (slice_range new n.low n.high))) t.0 t.1 ∙ ap Some same,
        )

    -- its first format
    pub front_edge : (e : Element) → slice_get old o.low ≡ Some e → o.low < o.high → slice_get new n.low ≡ Some e → e.visible ≡ true → LiesOutside inner n.low → n.low < n.high
        → (r.from < r.to) × ((format : Format) × (slice_get (formats (glyphs now)) r.from ≡ Some format) × (slice_get (formats (glyphs_in r)) 0 ≡ Some format))
    front_edge e stood was stands seen out some =
        let edge = one_edge o.low n.low e stood stands seen out (omega arith) some in
        let none : n.low - n.low ≡ 0 = omega arith in
        let past = visible_past old o.low o.low o.high e stood seen (omega arith) was in
        (omega arith, (edge.0, ap (slice_get (formats (glyphs now))) from ∙ edge.1, ap (λ k. slice_get (formats (glyphs_in r)) (visible (take k (slice_range new n.low n.high)))) (sym none) ∙ edge.2))

    -- its last format
    pub back_edge : (place last : ℕ) (e : Element) → slice_get old place ≡ Some e → o.low ≤ place → o.high ≡ place + 1 → slice_get new last ≡ Some e → e.visible ≡ true → LiesOutside inner last
        → n.low ≤ last → n.high ≡ last + 1 → n.high ≤ length new
        → (r.from < r.to) × ((format : Format) × (slice_get (formats (glyphs now)) (r.to - 1) ≡ Some format) × (slice_get (formats (glyphs_in r)) (length (formats (glyphs_in r)) - 1) ≡ Some format))
    back_edge place last e stood low was stands seen out some is_last within =
        let range : List Element = slice_range new n.low n.high in
        let k : ℕ = last - n.low in
        let edge = one_edge place last e stood stands seen out some (omega arith) in
        let past = visible_past old o.low place o.high e stood seen low (omega arith) in
        let before : visible (take o.high old) ≡ visible (take place old) + 1 = ap (λ m. visible (take m old)) was ∙ visible_more old place e stood seen in
        let at_to : r.to - 1 ≡ visible (take place old) = omega arith in
        let long : length range ≡ k + 1 = length-take-le (n.high - n.low) (drop n.low new) (omega (arith, length-drop n.low new)) ∙ omega arith in
        let count : visible range ≡ visible (take k range) + 1 =
        ap visible (sym (take_all (k + 1) range (omega arith))) ∙ visible_more range k e (at_range new n.low n.high last some (omega arith) ∙ stands) seen in
        let seen_as = seen_glyphs flat.shown (spans_in r.window.text r.window.rows) texts flat.cut in
        let size : length (formats (glyphs_in r)) ≡ visible range =
        length-map (glyphs_in r) (λ (z : Glyph). z.format) ∙ ap length seen_as ∙ length-map flat.shown glyph_of ∙ drawn_count range flat.shown flat.drawn in
        let at_end : length (formats (glyphs_in r)) - 1 ≡ visible (take k range) = omega arith in
        (omega arith, (edge.0, ap (slice_get (formats (glyphs now))) at_to ∙ edge.1, ap (slice_get (formats (glyphs_in r))) at_end ∙ edge.2))
