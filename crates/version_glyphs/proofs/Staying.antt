-- What stays of spans around a window.
use Rattle.std.proofs.Common.{◌≡◌, ℕ, ◌+◌, ◌-◌, ◌<◌, ◌≤◌, inl, inr, List, ◌++◌, Some, length, take, drop, sym, ap, subst, ◌∙◌, arith, append_assoc, length-append}
use Rattle.std.specs.List.{slice_get}
use Rattle.std.proofs.lemmas.Bool.{cases_lt}
use Rattle.std.proofs.lemmas.Grind.{flat_map-append}
use Rattle.std.proofs.lemmas.List.{drop-append-le, length-drop, length-take-le, take-append-drop}
use Rattle.std.proofs.lemmas.Option.{slice_get_within}
use Rattle.std.proofs.Math.Seq.{drop-append-add, take-append-add}
use Rattle.mark_anchors.specs.Formatting.{Format}
use Rattle.span_flatten.specs.Edges.{KeepEdges}
use Rattle.span_flatten.specs.Spans.{Span}
use Rattle.version_glyphs.specs.Glyphs.{AreMaximal, Glyph, glyphs, glyphs_of}
use Rattle.version_glyphs.specs.Replacements.{formats}
use Rattle.version_glyphs.proofs.Contents.{one_maximal}
use Rattle.version_glyphs.proofs.Parting.{AreParted, Parts, format_ahead, format_behind, length_formats, maximal_parted, maximal_parts, parted}

-- characters with others in place of those from `from` up to `to`, which begin and end with the formats that stand there
pub record IsWindow (old all : List Glyph) (from to : ℕ) : Type 0 where
  pub new : List Glyph
  pub is : all ≡ take from old ++ (new ++ drop to old)
  pub keep : KeepEdges (formats old) from to (formats new)
  pub order : from ≤ to
  pub within : to ≤ length old

-- spans begin and end with these
pub record IsBetween (front back spans : List Span) : Type 0 where
  pub within : List Span
  pub are : spans ≡ front ++ (within ++ back)

pub glyphs_append : (a b : List Span) → glyphs (a ++ b) ≡ glyphs a ++ glyphs b
glyphs_append a b = flat_map-append glyphs_of a b

module _ (older newer front mid back : List Span) (from to : ℕ) (w : IsWindow (glyphs older) (glyphs newer) from to) (maximal : AreMaximal older)
    (are : older ≡ front ++ (mid ++ back)) (low : length (glyphs front) ≤ from) (high : to ≤ length (glyphs front) + length (glyphs mid)) where
  abbrev xs : List Glyph
  xs = glyphs front

  abbrev ys : List Glyph
  ys = glyphs mid

  abbrev zs : List Glyph
  zs = glyphs back

  -- what stands behind the first spans and before the window, and behind it and before the last spans
  abbrev head : List Glyph
  head = take (from - length xs) (ys ++ zs)

  abbrev tail : List Glyph
  tail = drop (to - length xs) ys

  abbrev middle : List Glyph
  middle = head ++ (w.new ++ tail)

  whole : glyphs older ≡ xs ++ (ys ++ zs)
  whole = ap glyphs are ∙ glyphs_append front (mid ++ back) ∙ ap (λ (l : List Glyph). xs ++ l) (glyphs_append mid back)

  length_head : length head ≡ from - length xs
  length_head = length-take-le (from - length xs) (ys ++ zs) (omega (arith, low, high, w.order, length-append ys zs))

  length_tail : length tail ≡ (length xs + length ys) - to
  length_tail = length-drop (to - length xs) ys ∙ omega (arith, low, w.order)

  spelt : glyphs newer ≡ xs ++ (middle ++ zs)
  spelt =
      let ahead : from ≡ length xs + (from - length xs) = omega (arith, low) in
      let past : to ≡ length xs + (to - length xs) = omega (arith, low, w.order) in
      let taken : take from (glyphs older) ≡ xs ++ head =
      ap (take from) whole ∙ ap (λ n. take n (xs ++ (ys ++ zs))) ahead ∙ take-append-add xs (ys ++ zs) (from - length xs) in
      let dropped : drop to (glyphs older) ≡ tail ++ zs =
      ap (drop to) whole ∙ ap (λ n. drop n (xs ++ (ys ++ zs))) past ∙ drop-append-add xs (ys ++ zs) (to - length xs)
      ∙ drop-append-le (to - length xs) ys zs (omega (arith, high)) in
      w.is ∙ ap (λ (l : List Glyph). l ++ (w.new ++ drop to (glyphs older))) taken ∙ ap (λ (l : List Glyph). (xs ++ head) ++ (w.new ++ l)) dropped
      ∙ append_assoc xs head (w.new ++ (tail ++ zs))
      ∙ ap (λ (l : List Glyph). xs ++ l) (ap (λ (l : List Glyph). head ++ l) (sym (append_assoc w.new tail zs)) ∙ sym (append_assoc head (w.new ++ tail) zs))

  -- behind the first spans goes on the format that stood there
  first_kept : 0 < from → slice_get (formats (middle ++ zs)) 0 ≡ slice_get (formats (ys ++ zs)) 0
  first_kept some = elim (cases_lt (length xs) from) [
    | inl less ↦
        let any : 0 < length head = omega (arith, less, length_head) in
        ap (λ (l : List Glyph). slice_get (formats l) 0) (append_assoc head (w.new ++ tail) zs)
        ∙ format_ahead head ((w.new ++ tail) ++ zs) 0 any
        ∙ sym (format_ahead head (drop (from - length xs) (ys ++ zs)) 0 any)
        ∙ ap (λ (l : List Glyph). slice_get (formats l) 0) (take-append-drop (from - length xs) (ys ++ zs))
    | inr le ↦
        let known = w.keep.front some in
        let f : Format = known.1.0 in
        let none : 0 ≡ length head + 0 = omega (arith, le, low, length_head) in
        let at : from ≡ length xs + 0 = omega (arith, le, low) in
        let any : 0 < length w.new = omega (arith, length_formats w.new, slice_get_within (formats w.new) 0 f known.1.2) in
        ap (λ (l : List Glyph). slice_get (formats l) 0) (append_assoc head (w.new ++ tail) zs)
        ∙ ap (slice_get (formats (head ++ ((w.new ++ tail) ++ zs)))) none
        ∙ format_behind head ((w.new ++ tail) ++ zs) 0
        ∙ ap (λ (l : List Glyph). slice_get (formats l) 0) (append_assoc w.new tail zs)
        ∙ format_ahead w.new (tail ++ zs) 0 any ∙ known.1.2 ∙ sym known.1.1
        ∙ ap (λ (l : List Glyph). slice_get (formats l) from) whole ∙ ap (slice_get (formats (xs ++ (ys ++ zs)))) at
        ∙ format_behind xs (ys ++ zs) 0
  ]

  left : AreParted xs (middle ++ zs)
  left i x y last g h same =
      maximal_parted front (mid ++ back) (subst AreMaximal are maximal) i x y last g
      (ap (λ (l : List Glyph). slice_get (formats l) 0) (glyphs_append mid back) ∙ sym (first_kept (omega (arith, last, low))) ∙ h) same

  -- before the last spans ends the format that stood there
  last_kept : (i : ℕ) → i + 1 ≡ length middle → 0 < length zs → (length xs + length ys ≡ (length xs + length ys - 1) + 1)
      × (slice_get (formats (xs ++ ys)) (length xs + length ys - 1) ≡ slice_get (formats middle) i)
  last_kept i last some =
      let known = w.keep.back (omega (arith, high, some, length_formats (glyphs older), ap length whole, length-append xs (ys ++ zs), length-append ys zs)) in
      let f : Format = known.1.0 in
      let size : length middle ≡ length head + (length w.new + length tail) =
      length-append head (w.new ++ tail) ∙ ap (λ n. length head + n) (length-append w.new tail) in (
        omega (arith, known.0, high),
        elim (cases_lt to (length xs + length ys)) [
          | inl less ↦
              let k : ℕ = length tail - 1 in
              let at : i ≡ length head + (length w.new + k) = omega (arith, last, size, less, length_tail) in
              let here : length xs + length ys - 1 ≡ length xs + ((to - length xs) + k) = omega (arith, less, length_tail, low, w.order) in
              let front_size : (to - length xs) + k ≡ length (take (to - length xs) ys) + k = omega (arith, length-take-le (to - length xs) ys (omega (arith, high))) in
              let new : slice_get (formats middle) i ≡ slice_get (formats tail) k =
              ap (slice_get (formats middle)) at ∙ format_behind head (w.new ++ tail) (length w.new + k) ∙ format_behind w.new tail k in
              let old : slice_get (formats (xs ++ ys)) (length xs + length ys - 1) ≡ slice_get (formats tail) k =
              ap (slice_get (formats (xs ++ ys))) here ∙ format_behind xs ys ((to - length xs) + k)
              ∙ ap (λ (l : List Glyph). slice_get (formats l) ((to - length xs) + k)) (sym (take-append-drop (to - length xs) ys))
              ∙ ap (slice_get (formats (take (to - length xs) ys ++ tail))) front_size ∙ format_behind (take (to - length xs) ys) tail k in
              old ∙ sym new
          | inr le ↦
              let any : 0 < length w.new = omega (arith, length_formats w.new, slice_get_within (formats w.new) (length (formats w.new) - 1) f known.1.2) in
              let at : i ≡ length head + (length (formats w.new) - 1) = omega (arith, last, size, le, length_tail, any, length_formats w.new) in
              let less : length (formats w.new) - 1 < length w.new = omega (arith, any, length_formats w.new) in
              let here : length xs + length ys - 1 ≡ to - 1 = omega (arith, le, high) in
              let inside : to - 1 < length (xs ++ ys) = omega (arith, known.0, high, length-append xs ys) in
              let new : slice_get (formats middle) i ≡ Some f =
              ap (slice_get (formats middle)) at ∙ format_behind head (w.new ++ tail) (length (formats w.new) - 1)
              ∙ format_ahead w.new tail (length (formats w.new) - 1) less ∙ known.1.2 in
              let old : slice_get (formats (xs ++ ys)) (length xs + length ys - 1) ≡ Some f =
              ap (slice_get (formats (xs ++ ys))) here ∙ sym (format_ahead (xs ++ ys) zs (to - 1) inside)
              ∙ ap (λ (l : List Glyph). slice_get (formats l) (to - 1)) (append_assoc xs ys zs ∙ sym whole) ∙ known.1.1 in
              old ∙ sym new
        ],
      )

  right : AreParted middle zs
  right i x y last g h same =
      let some : 0 < length zs = omega (arith, length_formats zs, slice_get_within (formats zs) 0 y h) in
      let kept = last_kept i last some in
      let k : ℕ = length xs + length ys - 1 in
      let spans : older ≡ (front ++ mid) ++ back = are ∙ sym (append_assoc front mid back) in
      let both : glyphs (front ++ mid) ≡ xs ++ ys = glyphs_append front mid in
      maximal_parted (front ++ mid) back (subst AreMaximal spans maximal) k x y
      (omega (arith, kept.0, ap length both, length-append xs ys))
      (ap (λ (l : List Glyph). slice_get (formats l) k) both ∙ kept.1 ∙ g) h same

  -- the spans before a window and behind it stay
  pub stays : AreMaximal newer → IsBetween front back newer
  stays fresh =
      let p : Parts newer xs (middle ++ zs) = parted newer xs (middle ++ zs) spelt left in
      let q : Parts p.back middle zs = parted p.back middle zs p.second right in
      let m = maximal_parts p.front p.back (subst AreMaximal p.are fresh) in
      let n = maximal_parts q.front q.back (subst AreMaximal q.are m.1) in
      let old = maximal_parts front (mid ++ back) (subst AreMaximal are maximal) in
      let same : p.front ≡ front = one_maximal p.front front m.0 old.0 p.first in
      let same_back : q.back ≡ back = one_maximal q.back back n.1 (maximal_parts mid back old.1).1 q.second in
      record {
        within = q.front;
        are = p.are ∙ ap (λ (l : List Span). l ++ p.back) same ∙ ap (λ (l : List Span). front ++ l) (q.are ∙ ap (λ (l : List Span). q.front ++ l) same_back);
      }
