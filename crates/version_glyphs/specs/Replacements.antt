-- Windows of a version's characters, put in place.
use Rattle.std.specs.Prelude.{◌≡◌, ◌<◌, ◌≤◌, ◌+◌, ℕ, List, [], ◌∷◌, ◌++◌, count_by, drop, length, map, take}
use Rattle.std.specs.Str.{IsUtf8}
use Rattle.change_ops.specs.declared.operation.Op.{Op}
use Rattle.char_sequence.specs.declared.sequence.Element.{Element}
use Rattle.mark_places.specs.declared.range.PlaceRange.{PlaceRange}
use Rattle.mark_anchors.specs.Formatting.{Format}
use Rattle.span_flatten.specs.Edges.{KeepEdges}
use Rattle.span_flatten.specs.Taken.{is_visible}
use Rattle.span_flatten.specs.Version.{IsWhole, spans_in}
use Rattle.span_flatten.specs.Window.{IsFlattened}
use Rattle.version_glyphs.specs.Glyphs.{AreMaximal, Glyph, glyphs}
use Rattle.version_glyphs.specs.declared.replacement.Replacement.{Replacement}

-- the characters that the window brings
abbrev pub glyphs_in : Replacement → List Glyph
glyphs_in r = glyphs (spans_in r.window.text r.window.rows)

-- the window's spans are as long as they can be
abbrev pub HasMaximalSpans : Replacement → Type 0
HasMaximalSpans r = AreMaximal (spans_in r.window.text r.window.rows)

-- a window put in place
abbrev pub put : Replacement → List Glyph → List Glyph
put r characters = take r.from characters ++ (glyphs_in r ++ drop r.to characters)

-- windows put in place, the last one first, so that none moves the place of another
abbrev pub put_all : List Replacement → List Glyph → List Glyph
put_all [] characters = characters
put_all (r ∷ rs) characters = put r (put_all rs characters)

-- from a character on, the windows' places stand one after another, and the last one ends at `end` or before it
abbrev pub AreInOrder : List Replacement → ℕ → ℕ → Type 0
AreInOrder [] at end = at ≤ end
AreInOrder (r ∷ rs) at end = (at ≤ r.from) × (r.from ≤ r.to) × AreInOrder rs r.to end

-- the format of each character
abbrev pub formats : List Glyph → List Format
formats characters = map (λ g. g.format) characters

-- the window begins and ends with what stands where it is put
abbrev pub IsEdged : List Glyph → Replacement → Type 0
IsEdged characters r = KeepEdges (formats characters) r.from r.to (formats (glyphs_in r))

-- each window does, and something stands behind each but the last one
abbrev pub AreEdged : List Glyph → List Replacement → Type 0
AreEdged characters [] = Unit {0}
AreEdged characters (r ∷ []) = IsEdged characters r
AreEdged characters (r ∷ next ∷ rs) =
    IsEdged characters r × (r.to < length characters) × AreEdged characters (next ∷ rs)

-- each window shows a range of the new elements, and stands in place of what was visible in that of the old ones
abbrev pub AreReplacements : List Element → List Element → List Op → List PlaceRange → List PlaceRange
    → List Replacement → Type 0
AreReplacements old new marks [] [] [] = Unit {0}
AreReplacements old new marks (o ∷ os) (n ∷ ns) (r ∷ rs) =
    (r.from ≡ count_by is_visible (take o.low old)) × (r.to ≡ count_by is_visible (take o.high old))
    × IsFlattened new marks n.low n.high r.window × IsWhole r.window.text r.window.rows × IsUtf8 r.window.text
    × AreReplacements old new marks os ns rs
AreReplacements old new marks os ns rs = ⊥

-- how many characters the windows bring
abbrev pub brought : List Replacement → ℕ
brought [] = 0
brought (r ∷ rs) = length (glyphs_in r) + brought rs
