-- What maximal spans are laid out as, and that these are no more than their characters.
use Rattle.std.proofs.Common.{◌≡◌, ℕ, ◌+◌, ◌-◌, ◌<◌, ◌≤◌, List, [], ◌∷◌, ◌++◌, length, refl, sym, ◌∙◌, arith, length-append}
use Rattle.span_flatten.specs.Spans.{Span}
use Rattle.span_flatten.specs.Version.{Version, IsLayout, joined, rows_from, spans_of}
use Rattle.span_flatten.proofs.Laying.{spans_back}
use Rattle.version_glyphs.specs.Laid.{laid}
use Rattle.version_glyphs.specs.Glyphs.{glyphs, glyphs_of, AreMaximal}
use Rattle.version_glyphs.proofs.Glyphs.{some_characters, length-glyphs_of}

-- ---- what is seen of a version
pub laid_spans : (number : ℕ) (spans : List Span) → spans_of (laid number spans) ≡ spans
laid_spans number spans =
    let layout : IsLayout spans (joined spans) (rows_from 0 spans) = record { whole = refl; end_to_end = refl } in
    spans_back spans (joined spans) (rows_from 0 spans) layout

pub laid_back : (version : Version) → IsLayout (spans_of version) version.text version.rows → laid version.number (spans_of version) ≡ version
laid_back version layout = λ i. record { number = version.number; text = sym layout.whole i; rows = sym layout.end_to_end i }

-- ---- counts
pub spans_few : (spans : List Span) → AreMaximal spans → length spans ≤ length (glyphs spans)
spans_few [] m = omega arith
spans_few (x ∷ xs) m =
    let first = some_characters x m.0 in
    let rest = spans_few xs m.2 in
    omega (arith, first, rest, length-append (glyphs_of x) (glyphs xs), length-glyphs_of x)
