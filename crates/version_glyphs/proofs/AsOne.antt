-- Windows that are put in place are as one window, from where the first one begins up to where the last one ends.
use Rattle.std.proofs.Common.{◌≡◌, ℕ, ◌+◌, ◌-◌, ◌<◌, ◌≤◌, List, [], ◌∷◌, ◌++◌, Some, length, take, drop, refl, sym, ap, subst, ◌∙◌, arith, append_assoc, length-append}
use Rattle.std.specs.List.{slice_get}
use Rattle.std.proofs.lemmas.List.{drop-append-le, length-take-le, take-append-drop, take-append-le}
use Rattle.std.proofs.lemmas.Option.{same_Some, slice_get_within}
use Rattle.mark_anchors.specs.Formatting.{Format}
use Rattle.version_glyphs.specs.Glyphs.{Glyph}
use Rattle.version_glyphs.specs.Replacements.{AreEdged, AreInOrder, formats, glyphs_in, put, put_all}
use Rattle.version_glyphs.specs.declared.replacement.Replacement.{Replacement}
use Rattle.version_glyphs.proofs.Parting.{format_ahead, format_behind, length_formats}
use Rattle.version_glyphs.proofs.Staying.{IsWindow}

first_ahead : (xs ys : List Glyph) (f : Format) → slice_get (formats xs) 0 ≡ Some f → slice_get (formats (xs ++ ys)) 0 ≡ Some f
first_ahead xs ys f g = format_ahead xs ys 0 (omega (arith, length_formats xs, slice_get_within (formats xs) 0 f g)) ∙ g

last_behind : (xs ys : List Glyph) (f : Format) → slice_get (formats ys) (length (formats ys) - 1) ≡ Some f
    → slice_get (formats (xs ++ ys)) (length (formats (xs ++ ys)) - 1) ≡ Some f
last_behind xs ys f g =
    let k : ℕ = length (formats ys) - 1 in
    let some : k < length (formats ys) = slice_get_within (formats ys) k f g in
    let at : length (formats (xs ++ ys)) - 1 ≡ length xs + k = omega (arith, some, length_formats ys, length_formats (xs ++ ys), length-append xs ys) in
    ap (slice_get (formats (xs ++ ys))) at ∙ format_behind xs ys k ∙ g

pub as_one : (r last : Replacement) (rs : List Replacement) (gs : List Glyph) (at : ℕ) → slice_get (r ∷ rs) (length rs) ≡ Some last
    → AreInOrder (r ∷ rs) at (length gs) → AreEdged gs (r ∷ rs) → IsWindow gs (put_all (r ∷ rs) gs) r.from last.to
as_one r last [] gs at g order edged =
    let one : IsWindow gs (put r gs) r.from r.to = record { new = glyphs_in r; is = refl; keep = edged; order = order.1; within = order.2 } in
    subst (λ (z : Replacement). IsWindow gs (put r gs) r.from z.to) (same_Some r last g) one
as_one r last (s ∷ rs) gs at g order edged =
    let w : IsWindow gs (put_all (s ∷ rs) gs) s.from last.to = as_one s last rs gs r.to g order.2 edged.2 in
    let next : r.to ≤ s.from = order.2.0 in
    let own : r.from ≤ r.to = order.1 in
    let some : List Glyph = put_all (s ∷ rs) gs in
    let front : List Glyph = take s.from gs in
    let behind : List Glyph = drop last.to gs in
    let between : List Glyph = drop r.to front in
    let size : length front ≡ s.from = length-take-le s.from gs (omega (arith, w.order, w.within)) in
    let taken : take r.from some ≡ take r.from gs =
    ap (take r.from) w.is ∙ take-append-le r.from front (w.new ++ behind) (omega (arith, own, next, size))
    ∙ sym (take-append-le r.from front (drop s.from gs) (omega (arith, own, next, size)))
    ∙ ap (take r.from) (take-append-drop s.from gs) in
    let dropped : drop r.to some ≡ between ++ (w.new ++ behind) = ap (drop r.to) w.is ∙ drop-append-le r.to front (w.new ++ behind) (omega (arith, next, size)) in
    let more : List Glyph = between ++ w.new in
    record {
      new = glyphs_in r ++ more;
      is = ap (λ (l : List Glyph). l ++ (glyphs_in r ++ drop r.to some)) taken ∙ ap (λ (l : List Glyph). take r.from gs ++ (glyphs_in r ++ l)) dropped
          ∙ ap (λ (l : List Glyph). take r.from gs ++ l)
          (ap (λ (l : List Glyph). glyphs_in r ++ l) (sym (append_assoc between w.new behind)) ∙ sym (append_assoc (glyphs_in r) more behind));
      keep = record {
        front = λ any.
            let known = edged.0.front any in
            (omega (arith, known.0, next, w.order), (known.1.0, known.1.1, first_ahead (glyphs_in r) more known.1.0 known.1.2));
        back = λ less.
            let known = w.keep.back less in
            (omega (arith, known.0, own, next), (known.1.0, known.1.1, last_behind (glyphs_in r) more known.1.0 (last_behind between w.new known.1.0 known.1.2)));
      };
      order = omega (arith, own, next, w.order);
      within = w.within;
    }
