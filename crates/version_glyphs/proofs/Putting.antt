-- Windows put in place, the last one first.
use Rattle.std.proofs.Common.{◌≡◌, ℕ, ◌+◌, ◌≤◌, List, [], ◌∷◌, ◌++◌, length, take, drop, ◌∙◌, arith, length-append, map}
use Rattle.std.proofs.lemmas.List.{length-map, length-take-le, length-drop}
use Rattle.std.proofs.lemmas.Str.{length-le-encodes}
use Rattle.version_glyphs.specs.Glyphs.{Glyph, text_of}
use Rattle.version_glyphs.specs.Replacements.{AreInOrder, glyphs_in, put, put_all, brought}
use Rattle.version_glyphs.specs.declared.replacement.Replacement.{Replacement}

-- ---- how many characters there are
pub length-put : (r : Replacement) (gs : List Glyph) → r.from ≤ r.to → r.to ≤ length gs → length (put r gs) + r.to ≡ r.from + length (glyphs_in r) + length gs
length-put r gs order within =
    omega (arith, length-append (take r.from gs) (glyphs_in r ++ drop r.to gs), length-append (glyphs_in r) (drop r.to gs), length-take-le r.from gs (omega arith), length-drop r.to gs)

-- the characters that windows bring are among those that there are then
pub brought_within : (rs : List Replacement) (gs : List Glyph) (at : ℕ) → AreInOrder rs at (length gs) → brought rs + at ≤ length (put_all rs gs)
brought_within [] gs at order = omega (arith, order)
brought_within (r ∷ rs) gs at order =
    let rest : brought rs + r.to ≤ length (put_all rs gs) = brought_within rs gs r.to order.2 in
    let size = length-put r (put_all rs gs) order.1 (omega (arith, rest)) in
    omega (arith, rest, size, order.0, order.1)

-- characters have a byte each at least
pub text_many : (gs : List Glyph) → length gs ≤ length (text_of gs)
text_many gs = omega (arith, length-le-encodes (map (λ (g : Glyph). g.character) gs), length-map gs (λ (g : Glyph). g.character))

pub few_with : (rs : List Replacement) (gs : List Glyph) → AreInOrder rs 0 (length gs) → length gs ≤ 131072 → length (text_of (put_all rs gs)) ≤ 131072 → length gs + brought rs ≤ 262144
few_with rs gs order few short = omega (arith, brought_within rs gs 0 order, text_many (put_all rs gs), few, short)

-- the last window's place, which is behind those of the others
pub record IsPlacedLast (rs : List Replacement) (r : Replacement) (at end : ℕ) : Type 0 where
  pub before : AreInOrder rs at r.from
  pub order : r.from ≤ r.to
  pub within : r.to ≤ end
