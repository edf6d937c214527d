use Rattle.std.proofs.Common.{◌↔◌, ◌∙◌, subst, sym}
use Rattle.std.specs.Bool.{IsTrue}
use Rattle.std.specs.Option.{option_copied}
use Rattle.mark_anchors.specs.Format.{Bears}
use Rattle.mark_anchors.proofs.KeyValues.{holds_from_value, is_some-copied}
use Rattle.mark_anchors.proofs.placed.holds_at.Goals as goal

pub returns : goal.returns
returns c =
    λ es ops a e unique h are placed at.
    subst (λ b. IsTrue b ↔ Bears ops e a) (is_some-copied c.added_at.result ∙ sym c.is_some.ensures)
    (holds_from_value ops a e unique (option_copied c.added_at.result) (c.added_at.ensures.value es ops _ e h are placed at))
