use Rattle.std.proofs.Common.{◌∙◌, List, Option, None, get_or, sym, ap, arith}
use Rattle.std.proofs.lemmas.List.{get_or_default}
use Rattle.change_ops.specs.declared.keys.TheConstants.{COLOR}
use Rattle.change_ops.specs.declared.value.Value.{Value}
use Rattle.mark_anchors.specs.Formatting.{rgb_of}
use Rattle.mark_anchors.proofs.Stores.{color_stored}
use Rattle.mark_anchors.proofs.values.Values.color.Goals as goal

pub returns : goal.returns
returns c =
    get_or_default c.self.inside.colors 0 c.index-self-0.result None (omega arith)
    ∙ sym (color_stored (record { flags = c.self.inside.flags; link = c.self.inside.link; colors = c.self.inside.colors; line_kinds = c.self.inside.line_kinds }))
    ∙ ap (λ (vs : List (Option Value)). rgb_of (get_or vs COLOR None)) c.self.view_is
