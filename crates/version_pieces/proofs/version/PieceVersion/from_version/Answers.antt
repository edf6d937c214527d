use Rattle.std.proofs.Common.{◌≡◌, ◌≤◌, ℕ, List, length, sym, subst, ap, ◌∙◌, IsUtf8}
use Rattle.span_flatten.specs.declared.version.Row.{Row}
use Rattle.span_flatten.specs.Spans.{Span}
use Rattle.span_flatten.specs.Version.{Version, joined, spans_in, spans_of}
use Rattle.version_glyphs.specs.Glyphs.{AreMaximal, glyphs}
use Rattle.version_glyphs.specs.Laid.{laid}
use Rattle.version_glyphs.proofs.Laid.{laid_back}
use Rattle.version_glyphs.proofs.Made.{version_made}
use Rattle.version_glyphs.proofs.Contents.{one_maximal}
use Rattle.version_pieces.proofs.version.PieceVersion.from_version.Goals as goal

-- the rows' spans are maximal
pub new-requires-clause-maximal : goal.new-requires-clause-maximal
new-requires-clause-maximal c =
    let version : Version = c.args.version.now in
    let text : List ℕ = c.text.result.now in
    let rows : List Row = c.rows.result.now in
    let read : spans_in text rows ≡ spans_of version = ap (λ t. spans_in t rows) c.text.ensures ∙ ap (λ (r : List Row). spans_in version.text r) c.rows.ensures.value in
    subst AreMaximal (sym read) (version_made version c.requires (subst IsUtf8 c.text.ensures c.text.utf8) c.rows.ensures.whole.limits)

pub invariant_of-result : goal.invariant_of-result
invariant_of-result c =
    let version : Version = c.args.version.now in
    let text : List ℕ = c.text.result.now in
    let rows : List Row = c.rows.result.now in
    let read : spans_in text rows ≡ spans_of version = ap (λ t. spans_in t rows) c.text.ensures ∙ ap (λ (r : List Row). spans_in version.text r) c.rows.ensures.value in
    let same : c.in_ok-spans.spans ≡ spans_of version =
    one_maximal c.in_ok-spans.spans (spans_of version) c.keeps.ensures (version_made version c.requires (subst IsUtf8 c.text.ensures c.text.utf8) c.rows.ensures.whole.limits)
    (c.in_ok-spans.ensures.glyphs ∙ ap glyphs read) in
    subst (λ (s : List Span). length (joined s) ≤ 131072) (sym same)
    (subst (λ (t : List ℕ). length t ≤ 131072) c.rows.ensures.whole.layout.whole c.rows.ensures.whole.limits.short)

pub returns-clause-version : goal.returns-clause-version
returns-clause-version c =
    let version : Version = c.args.version.now in
    let text : List ℕ = c.text.result.now in
    let rows : List Row = c.rows.result.now in
    let read : spans_in text rows ≡ spans_of version = ap (λ t. spans_in t rows) c.text.ensures ∙ ap (λ (r : List Row). spans_in version.text r) c.rows.ensures.value in
    let same : c.in_ok-spans.spans ≡ spans_of version =
    one_maximal c.in_ok-spans.spans (spans_of version) c.keeps.ensures (version_made version c.requires (subst IsUtf8 c.text.ensures c.text.utf8) c.rows.ensures.whole.limits)
    (c.in_ok-spans.ensures.glyphs ∙ ap glyphs read) in
    ap (λ n. laid n c.in_ok-spans.spans) c.number.ensures ∙ ap (λ (l : List Span). laid version.number l) same ∙ laid_back version c.rows.ensures.whole.layout
