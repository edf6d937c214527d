use Rattle.std.proofs.Common.{◌≡◌, ℕ, List, length, sym, ap, ◌∙◌, arith, rules, encode_utf8_all, IsUtf8}
use Rattle.std.specs.Str.{chars}
use Rattle.std.proofs.lemmas.Str.{encodes-chars}
use Rattle.mark_anchors.specs.Formatting.{Format}
use Rattle.span_flatten.specs.Spans.{Span}
use Rattle.span_view.proofs.Views.{lent_at, seen_limits}
use Rattle.span_view.proofs.view.lent.Goals as goal

-- a span with the text that has these characters
spelt : (text characters : List ℕ) (format : Format) (span : Span) → IsUtf8 text → chars text ≡ characters
    → record { text = encode_utf8_all characters; format = format } ≡ span → record { text = text; format = format } ≡ span
spelt text characters format span utf8 is seen =
    let same : text ≡ encode_utf8_all characters = sym (encodes-chars text utf8) ∙ ap encode_utf8_all is in
    ap (λ (l : List ℕ). record { text = l; format = format }) same ∙ seen

pub invariant_of-result : goal.invariant_of-result
invariant_of-result c =
    let text = ap (λ (s : Span). length s.text) (spelt c.in_ok-text.text.now c.span.inside.text c.span.inside.format.now c.args.span (search rules) c.in_ok-text.ensures c.span.view_is) in
    let l = seen_limits c.args.version.now c.args.index c.args.span c.span_count.ensures.whole c.requires in
    let count = c.span_count.ensures.value in
    (record { short = omega (arith, text, l.short); within = omega (arith, l.within, count); few = omega (arith, l.few, count) }, c.span.invariant ∙ ap length (sym c.in_ok-text.ensures))

pub returns : goal.returns
returns c =
    let is = spelt c.in_ok-text.text.now c.span.inside.text c.span.inside.format.now c.args.span (search rules) c.in_ok-text.ensures c.span.view_is in
    lent_at c.args.version.now c.args.index c.args.span c.in_ok-text.text.now c.span.inside.format.now c.span_count.result c.number.result c.requires is c.span_count.ensures.value c.number.ensures
