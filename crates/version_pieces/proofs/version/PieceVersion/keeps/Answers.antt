use Rattle.std.proofs.Common.{◌≡◌, List, length, sym, subst, ap, ◌∙◌, arith}
use Rattle.span_flatten.specs.Spans.{Span}
use Rattle.span_flatten.specs.Version.{Version, spans_of}
use Rattle.version_glyphs.specs.Glyphs.{AreMaximal, glyphs}
use Rattle.version_glyphs.specs.Laid.{laid}
use Rattle.version_glyphs.proofs.Laid.{laid_spans}
use Rattle.version_glyphs.proofs.Spelling.{glyphs_few}
use Rattle.version_pieces.proofs.version.PieceVersion.keeps.Goals as goal

pub returns-clause-maximal : goal.returns-clause-maximal
returns-clause-maximal c =
    let back : c.self.inside.spans ≡ spans_of c.args.self.now = sym (laid_spans c.self.inside.number c.self.inside.spans) ∙ ap (λ (v : Version). spans_of v) c.self.view_is in
    subst AreMaximal back c.keeps.ensures

pub returns-clause-laid : goal.returns-clause-laid
returns-clause-laid c =
    let back : c.self.inside.spans ≡ spans_of c.args.self.now = sym (laid_spans c.self.inside.number c.self.inside.spans) ∙ ap (λ (v : Version). spans_of v) c.self.view_is in
    sym c.self.view_is ∙ ap (λ n. laid n c.self.inside.spans) (ap (λ (v : Version). v.number) c.self.view_is) ∙ ap (λ (l : List Span). laid c.args.self.now.number l) back

pub returns-clause-few : goal.returns-clause-few
returns-clause-few c =
    let back : c.self.inside.spans ≡ spans_of c.args.self.now = sym (laid_spans c.self.inside.number c.self.inside.spans) ∙ ap (λ (v : Version). spans_of v) c.self.view_is in
    omega (arith, glyphs_few c.self.inside.spans c.keeps.ensures, c.self.invariant, ap (λ (l : List Span). length (glyphs l)) back)
