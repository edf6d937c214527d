use Rattle.std.proofs.Common.{subst}
use Rattle.version_glyphs.specs.Glyphs.{AreMaximal}
use Rattle.version_pieces.proofs.Along.{maximal_along, scalars_are}
use Rattle.version_pieces.proofs.spans.Spans.keeps.Goals as goal

pub returns : goal.returns
returns c =
    let a = c.self.invariant in
    subst AreMaximal c.self.view_is (maximal_along c.self.inside.runs c.self.inside.text a.maximal (scalars_are c.self.inside.text a.spelt) a.whole)
