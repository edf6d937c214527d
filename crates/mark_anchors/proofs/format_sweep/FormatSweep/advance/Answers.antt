use Rattle.std.proofs.Common.{◌↔◌, subst}
use Rattle.std.specs.Bool.{IsTrue}
use Rattle.mark_anchors.specs.Formatting.{Format}
use Rattle.mark_anchors.specs.Ranges.{IsFormatAt}
use Rattle.mark_anchors.specs.Resolution.{FormatSweep}
use Rattle.mark_anchors.proofs.format_sweep.FormatSweep.advance.Goals as goal

pub returns-clause-alike : goal.returns-clause-alike
returns-clause-alike c =
    subst
    (λ (v : FormatSweep). (format : Format) → IsFormatAt v.resolution.elements v.resolution.marks v.place format → IsTrue c.is_alike-alike.result ↔ IsFormatAt v.resolution.elements v.resolution.marks c.args.place format)
    c.self.view_is c.is_alike-alike.ensures
