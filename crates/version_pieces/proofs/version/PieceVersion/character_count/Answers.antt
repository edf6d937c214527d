use Rattle.std.proofs.Common.{◌≡◌, List, length, sym, ap, ◌∙◌}
use Rattle.std.specs.Str.{chars}
use Rattle.span_flatten.specs.Spans.{Span}
use Rattle.span_flatten.specs.Version.{Version, spans_of}
use Rattle.version_glyphs.specs.Glyphs.{glyphs}
use Rattle.version_glyphs.proofs.Laid.{laid_spans}
use Rattle.version_glyphs.proofs.Wholes.{joined_characters}
use Rattle.version_pieces.proofs.version.PieceVersion.character_count.Goals as goal

pub returns-clause-glyphs : goal.returns-clause-glyphs
returns-clause-glyphs c =
    let back : c.self.inside.spans ≡ spans_of c.args.self.now = sym (laid_spans c.self.inside.number c.self.inside.spans) ∙ ap (λ (v : Version). spans_of v) c.self.view_is in
    c.character_count.ensures ∙ ap (λ (l : List Span). length (glyphs l)) back

pub returns-clause-text : goal.returns-clause-text
returns-clause-text c =
    c.character_count.ensures ∙ sym (joined_characters c.self.inside.spans c.keeps.ensures)
    ∙ ap (λ (v : Version). length (chars v.text)) c.self.view_is
