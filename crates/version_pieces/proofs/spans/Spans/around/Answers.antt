use Rattle.std.proofs.Common.{◌≡◌, ◌-◌, ℕ, List, length, sym, subst, ap, ◌∙◌}
use Rattle.span_flatten.specs.Spans.{Span}
use Rattle.version_glyphs.specs.Glyphs.{AreMaximal}
use Rattle.version_pieces.specs.Alike.{AreAround, AreBegun}
use Rattle.version_pieces.specs.Along.{spans_along}
use Rattle.version_pieces.proofs.Along.{maximal_along, scalars_are}
use Rattle.version_pieces.proofs.Standing.{around_along}
use Rattle.version_pieces.proofs.spans.Spans.around.Goals as goal

pub returns : goal.returns
returns c =
    let cs : List ℕ = c.self.inside.text in
    let a = c.self.invariant in
    let maximal : AreMaximal (spans_along c.self.inside.runs cs) = maximal_along c.self.inside.runs cs a.maximal (scalars_are cs a.spelt) a.whole in
    let first : AreBegun (spans_along c.self.inside.runs cs) c.args.to c.begun.result =
    subst (λ (l : List Span). AreBegun l c.args.to c.begun.result) (sym c.self.view_is) c.begun.ensures in
    let behind : c.count.result - c.begun.result ≡ length (spans_along c.self.inside.runs cs) - c.begun.result =
    ap (λ (n : ℕ). n - c.begun.result) (c.count.ensures ∙ ap length (sym c.self.view_is)) in
    subst (λ (l : List Span). AreAround l c.args.from c.args.to c.index_over.result (c.count.result - c.begun.result)) c.self.view_is
    (around_along cs c.self.inside.runs c.args.from c.args.to c.index_over.result c.begun.result (c.count.result - c.begun.result) a maximal c.requires.order
    c.index_over.ensures first behind)
