-- How many steps runs take at most, on any span and on several.
use Rattle.std.proofs.Common.{◌≡◌, ℕ, suc, ◌+◌, ◌*◌, ◌≤◌, List, [], ◌∷◌, length, sum_by, sym, ◌∙◌, ap, arith}
use Rattle.std.proofs.Math.Nat.{mul-le-mul_left}
use Rattle.std.proofs.lemmas.List.Sums.{sum_by-cons}
use Rattle.span_context.specs.Context.{SpanBytes, text_limit, link_limit}
use Rattle.span_context.specs.declared.profile.Profile.{Profile}
use Rattle.semantics.specs.Safe.{IsSpanIn}
use Rattle.loop_labels.specs.Potential.{Bound, steps_within, most_steps, text_bytes, link_bytes, steps_within_all}

pub at_most_most : (profile : Profile) (bound : Bound) (bytes : SpanBytes) → IsSpanIn profile bytes
    → steps_within bound bytes ≤ most_steps bound
at_most_most profile bound bytes span =
    let text : bound.per_byte * length bytes.text ≤ bound.per_byte * text_limit
    = mul-le-mul_left bound.per_byte span.fits.short in
    let link : bound.per_link_byte * length bytes.link ≤ bound.per_link_byte * link_limit
    = mul-le-mul_left bound.per_link_byte span.fits.link_short in
    omega arith

spread : (c a b n m k r s whole rest : ℕ) → whole ≡ (c + (a * n + b * m)) + rest → rest ≡ c * k + (a * r + b * s)
    → whole ≡ c * suc k + (a * (n + r) + b * (m + s))
spread c a b n m k r s whole rest e f = omega arith

pub sum_of_spans : (bound : Bound) (spans : List SpanBytes)
    → sum_by (steps_within bound) spans ≡ steps_within_all bound spans
sum_of_spans bound [] = omega arith
sum_of_spans bound (bytes ∷ spans) =
    let texts : text_bytes (bytes ∷ spans) ≡ length bytes.text + text_bytes spans
    = sum_by-cons (λ (b : SpanBytes). length b.text) bytes spans in
    let links : link_bytes (bytes ∷ spans) ≡ length bytes.link + link_bytes spans
    = sum_by-cons (λ (b : SpanBytes). length b.link) bytes spans in
    spread bound.constant bound.per_byte bound.per_link_byte (length bytes.text) (length bytes.link) (length spans)
    (text_bytes spans) (link_bytes spans) (sum_by (steps_within bound) (bytes ∷ spans))
    (sum_by (steps_within bound) spans) (sum_by-cons (steps_within bound) bytes spans) (sum_of_spans bound spans)
    ∙ (ap (λ t. bound.constant * suc (length spans)
    + (bound.per_byte * t + bound.per_link_byte * (length bytes.link + link_bytes spans))) (sym texts)
    ∙ ap (λ l. bound.constant * suc (length spans)
    + (bound.per_byte * text_bytes (bytes ∷ spans) + bound.per_link_byte * l)) (sym links))
