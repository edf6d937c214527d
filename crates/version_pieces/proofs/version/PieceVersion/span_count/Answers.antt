use Rattle.std.proofs.Common.{length, sym, subst, ap, ◌∙◌}
use Rattle.span_flatten.specs.Version.{Version, IsWhole}
use Rattle.span_flatten.proofs.Laying.{length-rows_from}
use Rattle.version_glyphs.proofs.Wholes.{laid_whole}
use Rattle.version_pieces.proofs.version.PieceVersion.span_count.Goals as goal

pub returns-clause-value : goal.returns-clause-value
returns-clause-value c = c.count.ensures ∙ sym (length-rows_from 0 c.self.inside.spans) ∙ ap (λ (v : Version). length v.rows) c.self.view_is

pub returns-clause-whole : goal.returns-clause-whole
returns-clause-whole c =
    subst (λ (v : Version). IsWhole v.text v.rows) c.self.view_is (laid_whole c.self.inside.spans c.keeps.ensures c.self.invariant)
