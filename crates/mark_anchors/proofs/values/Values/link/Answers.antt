use Rattle.std.proofs.Common.{◌≡◌, ◌∙◌, List, Option, None, get_or, sym, ap}
use Rattle.std.specs.Option.{option_copied}
use Rattle.change_ops.specs.declared.keys.TheConstants.{LINK}
use Rattle.change_ops.specs.declared.value.Value.{Value}
use Rattle.mark_anchors.specs.Formatting.{target_of}
use Rattle.mark_anchors.proofs.Stores.{link_stored}
use Rattle.mark_anchors.proofs.values.Values.link.Goals as goal

pub returns : goal.returns
returns c =
    let lent : option_copied c.as_ref.result ≡ c.self.inside.link = c.as_ref.ensures.value in
    lent
    ∙ sym (link_stored (record { flags = c.self.inside.flags; link = c.self.inside.link; colors = c.self.inside.colors; line_kinds = c.self.inside.line_kinds }))
    ∙ ap (λ (vs : List (Option Value)). target_of (get_or vs LINK None)) c.self.view_is
