-- Windows put in place, the last one first.
use Rattle.std.proofs.Common.{◌≡◌, ℕ, zero, suc, ◌+◌, ◌-◌, ◌<◌, ◌≤◌, List, [], ◌∷◌, ◌++◌, drop, length, take, refl, sym, ap, subst, ◌∙◌, arith, All}
use Rattle.std.specs.List.{slice_get}
use Rattle.std.proofs.lemmas.List.{length-map}
use Rattle.std.proofs.lemmas.List.Elements.{All-cons, All-head, All-nil, All-tail}
use Rattle.span_flatten.specs.Spans.{Span}
use Rattle.span_flatten.specs.Version.{Version, spans_of}
use Rattle.version_glyphs.specs.Glyphs.{AreMaximal, Glyph, glyphs}
use Rattle.version_glyphs.specs.Laid.{laid}
use Rattle.version_glyphs.specs.Replacements.{AreEdged, AreInOrder, HasMaximalSpans, IsEdged, brought, formats, glyphs_in, put, put_all}
use Rattle.version_pieces.specs.Putting.{CanTake}
use Rattle.version_glyphs.specs.declared.replacement.Replacement.{Replacement}
use Rattle.version_glyphs.proofs.Putting.{IsPlacedLast, length-put}
use Rattle.version_glyphs.proofs.Laid.{laid_spans}

-- ---- the last window
put_all_last : (rs : List Replacement) (r : Replacement) (gs : List Glyph) → put_all (rs ++ r ∷ []) gs ≡ put_all rs (put r gs)
put_all_last [] r gs = refl
put_all_last (x ∷ rs) r gs = ap (put x) (put_all_last rs r gs)

brought_last : (rs : List Replacement) (r : Replacement) → brought (rs ++ r ∷ []) ≡ brought rs + length (glyphs_in r)
brought_last [] r = omega arith
brought_last (x ∷ rs) r = omega (arith, brought_last rs r)

order_last : (rs : List Replacement) (r : Replacement) (at end : ℕ) → AreInOrder (rs ++ r ∷ []) at end → IsPlacedLast rs r at end
order_last [] r at end order = record { before = order.0; order = order.1; within = order.2 }
order_last (x ∷ rs) r at end order =
    let rest = order_last rs r x.to end order.2 in
    record { before = (order.0, order.1, rest.before); order = rest.order; within = rest.within }

order_wider : (rs : List Replacement) (at end more : ℕ) → AreInOrder rs at end → end ≤ more → AreInOrder rs at more
order_wider [] at end more order le = omega (arith, order)
order_wider (x ∷ rs) at end more order le = (order.0, order.1, order_wider rs x.to end more order.2 le)

maximal_last : (rs : List Replacement) (r : Replacement) → All HasMaximalSpans (rs ++ r ∷ []) → All HasMaximalSpans rs × HasMaximalSpans r
maximal_last [] r all = (All-nil HasMaximalSpans, All-head HasMaximalSpans r [] all)
maximal_last (x ∷ rs) r all =
    let rest = maximal_last rs r (All-tail HasMaximalSpans x (rs ++ r ∷ []) all) in
    (All-cons HasMaximalSpans x rs (All-head HasMaximalSpans x (rs ++ r ∷ []) all) rest.0, rest.1)

-- ---- windows that keep their edges
-- what stands before a window stays
get_before : (n : ℕ) (xs ys : List Glyph) (j : ℕ) → j < n → n ≤ length xs → slice_get (formats (take n xs ++ ys)) j ≡ slice_get (formats xs) j
get_before zero xs ys j less le = absurd (omega arith)
get_before (suc n) [] ys j less le = absurd (omega arith)
get_before (suc n) (x ∷ xs) ys zero less le = refl
get_before (suc n) (x ∷ xs) ys (suc j) less le = get_before n xs ys j (omega arith) (omega arith)

length_formats : (gs : List Glyph) → length (formats gs) ≡ length gs
length_formats gs = length-map gs (λ (g : Glyph). g.format)

-- a window before another one that is put in place keeps its edges
edged_before : (gs : List Glyph) (r w : Replacement) → w.to ≤ r.from → r.from ≤ length gs → w.to < length gs → IsEdged gs w → IsEdged (put r gs) w
edged_before gs r w order within less edged =
    let same : (j : ℕ) → j < r.from → slice_get (formats (put r gs)) j ≡ slice_get (formats gs) j = λ j low. get_before r.from gs (glyphs_in r ++ drop r.to gs) j low within in
    record {
      front = λ some.
          let known = edged.front some in
          (known.0, (known.1.0, same w.from (omega (arith, known.0)) ∙ known.1.1, known.1.2));
      back = λ _.
          let known = edged.back (omega (arith, length_formats gs)) in
          (known.0, (known.1.0, same (w.to - 1) (omega (arith, known.0)) ∙ known.1.1, known.1.2));
    }

order_ends : (rs : List Replacement) (at end : ℕ) → AreInOrder rs at end → at ≤ end
order_ends [] at end order = order
order_ends (x ∷ rs) at end order = let rest : x.to ≤ end = order_ends rs x.to end order.2 in omega (arith, order.0, order.1)

edged_last : (rs : List Replacement) (r : Replacement) (gs : List Glyph) → AreEdged gs (rs ++ r ∷ []) → IsEdged gs r
edged_last [] r gs edged = edged
edged_last (x ∷ []) r gs edged = edged.2
edged_last (x ∷ y ∷ rs) r gs edged = edged_last (y ∷ rs) r gs edged.2

-- something stands behind each window but the last one
edged_first : (rs : List Replacement) (x r : Replacement) (gs : List Glyph) → AreEdged gs (x ∷ (rs ++ r ∷ [])) → IsEdged gs x × (x.to < length gs)
edged_first [] x r gs edged = (edged.0, edged.1)
edged_first (y ∷ rs) x r gs edged = (edged.0, edged.1)

edged_others : (rs : List Replacement) (r : Replacement) (gs : List Glyph) (at : ℕ) → AreEdged gs (rs ++ r ∷ []) → AreInOrder rs at r.from → r.from ≤ r.to
    → r.to ≤ length gs → AreEdged (put r gs) rs
edged_others [] r gs at edged order le within = tt
edged_others (x ∷ []) r gs at edged order le within = edged_before gs r x order.2 (omega arith) edged.1 edged.0
edged_others (x ∷ y ∷ rs) r gs at edged order le within =
    let next = edged_first rs y r gs edged.2 in
    let some = next.0.back (omega (arith, next.1, length_formats gs)) in
    let up_to : y.to ≤ r.from = order_ends rs y.to r.from order.2.2 in
    let size = length-put r gs le within in (
      edged_before gs r x (omega (arith, up_to, order.2.0, order.2.1)) (omega arith) edged.1 edged.0,
      omega (arith, some.0, up_to, order.2.0, size, within),
      edged_others (y ∷ rs) r gs x.to edged.2 order.2 le within,
    )

-- with the last windows in place in `all`, it is left to put the others there
pub record AreLeft (gs all : List Glyph) (windows rest : List Replacement) : Type 0 where
  pub can : CanTake all rest
  pub same : put_all rest all ≡ put_all windows gs

pub none_put : (gs : List Glyph) (windows : List Replacement) → CanTake gs windows → AreLeft gs gs windows windows
none_put gs windows can = record { can = can; same = refl }

pub last_place : (gs : List Glyph) (windows rest : List Replacement) (r : Replacement) → CanTake gs windows → windows ≡ rest ++ r ∷ [] → IsPlacedLast rest r 0 (length gs)
last_place gs windows rest r can is = order_last rest r 0 (length gs) (subst (λ (l : List Replacement). AreInOrder l 0 (length gs)) is can.order)

pub last_maximal : (gs : List Glyph) (windows rest : List Replacement) (r : Replacement) → CanTake gs windows → windows ≡ rest ++ r ∷ [] → All HasMaximalSpans rest × HasMaximalSpans r
last_maximal gs windows rest r can is = maximal_last rest r (subst (λ (l : List Replacement). All HasMaximalSpans l) is can.spans)

pub last_few : (gs : List Glyph) (windows rest : List Replacement) (r : Replacement) → CanTake gs windows → windows ≡ rest ++ r ∷ [] → length gs + length (glyphs_in r) ≤ 262144
last_few gs windows rest r can is = omega (arith, can.few, ap brought is ∙ brought_last rest r)

pub last_edged : (gs : List Glyph) (windows rest : List Replacement) (r : Replacement) → CanTake gs windows → windows ≡ rest ++ r ∷ [] → IsEdged gs r
last_edged gs windows rest r can is = edged_last rest r gs (subst (λ (l : List Replacement). AreEdged gs l) is can.edged)

-- one window more, the last of those that are left
pub last_put : (gs some all : List Glyph) (windows others rest : List Replacement) (r : Replacement) → AreLeft gs some windows others → others ≡ rest ++ r ∷ []
    → all ≡ put r some → AreLeft gs all windows rest
last_put gs some all windows others rest r left is spelt =
    let place = last_place some others rest r left.can is in
    let size = length-put r some place.order place.within in
    let more : brought others ≡ brought rest + length (glyphs_in r) = ap brought is ∙ brought_last rest r in
    let grown : length all ≡ length (put r some) = ap length spelt in
    record {
      can = record {
        order = order_wider rest 0 r.from (length all) place.before (omega (arith, size, grown, place.within));
        spans = (last_maximal some others rest r left.can is).0;
        edged = subst (λ (l : List Glyph). AreEdged l rest) (sym spelt)
            (edged_others rest r some 0 (subst (λ (l : List Replacement). AreEdged some l) is left.can.edged) place.before place.order place.within);
        few = omega (arith, size, grown, more, left.can.few, place.order);
      };
      same = ap (put_all rest) spelt ∙ sym (put_all_last rest r some) ∙ ap (λ (l : List Replacement). put_all l some) (sym is) ∙ left.same;
    }

-- what is said of the next version
pub record IsNext (number : ℕ) (spans : List Span) (next : Version) (windows : List Replacement) : Type 0 where
  pub spelt : glyphs (spans_of next) ≡ put_all windows (glyphs spans)
  pub maximal : AreMaximal (spans_of next)
  pub is : next ≡ laid number (spans_of next)

pub next_is : (number : ℕ) (all spans : List Span) (next : Version) (windows : List Replacement) → AreMaximal all → glyphs all ≡ put_all windows (glyphs spans)
    → next ≡ laid number all → IsNext number spans next windows
next_is number all spans next windows maximal spelt is =
    let back : spans_of next ≡ all = ap (λ (v : Version). spans_of v) is ∙ laid_spans number all in
    record {
      spelt = ap glyphs back ∙ spelt;
      maximal = subst AreMaximal (sym back) maximal;
      is = is ∙ ap (laid number) (sym back);
    }
