use Rattle.std.proofs.Common.{◌≡◌, ◌∙◌, rules}
use Rattle.mark_anchors.proofs.Decisions.{same_clones}
use Rattle.mark_anchors.proofs.Stores.{same_values_stored}
use Rattle.mark_anchors.proofs.values.ValuesClone.clone.Goals as goal

pub returns : goal.returns
returns c =
    let link : c.in_ok-clone.field-0 ≡ c.self.inside.link = search rules in
    let colors : c.in_ok-clone-2.field-0 ≡ c.self.inside.colors = same_clones c.self.inside.colors c.in_ok-clone-2.field-0 _ (λ x y r. search rules) c.in_ok-clone-2.ensures.cases c.self.invariant.colors in
    let line_kinds : c.in_ok-clone-3.field-0 ≡ c.self.inside.line_kinds = same_clones c.self.inside.line_kinds c.in_ok-clone-3.field-0 _ (λ x y r. search rules) c.in_ok-clone-3.ensures.cases c.self.invariant.line_kinds in
    record { cases = same_values_stored c.self.inside.flags c.in_ok-clone.field-0 c.self.inside.link c.in_ok-clone-2.field-0 c.self.inside.colors c.in_ok-clone-3.field-0 c.self.inside.line_kinds link colors line_kinds ∙ c.self.view_is }
