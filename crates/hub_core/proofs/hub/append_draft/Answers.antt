use Rattle.std.proofs.Common.{◌++◌, ◌∷◌, [], ◌∙◌, refl, ap}
use Rattle.change_history.specs.Chronicle.{Chronicle}
use Rattle.hub_core.proofs.Sound.{version_of_all}
use Rattle.hub_core.proofs.hub.append_draft.Goals as goal

pub publish_draft-requires : goal.publish_draft-requires
publish_draft-requires g c = record { drafted = c.requires.drafted; published = c.requires.published }

pub returns-in_default-clause-accepts : goal.returns-in_default-clause-accepts
returns-in_default-clause-accepts g c = λ change draft. (refl, c.publish_draft.ensures.same, draft.accepted.room)

pub returns-clause-accepts : goal.returns-clause-accepts
returns-clause-accepts g c = λ change draft. (
  draft.accepted,
  version_of_all c.args.history.now.changes change c.in-Ok.token.value (c.in-Ok.ensures.token change draft),
  ap (λ (h : Chronicle). h.changes) (c.put.ensures change draft),
  c.push_reserved.ensures.items ∙ (λ i. c.in-Ok.ensures.same i ++ c.again.ensures i ∷ []),
)

pub returns-clause-size : goal.returns-clause-size
returns-clause-size g c = ap (λ (h : Chronicle). h.size) (c.put.ensures c.requires.drafted.0 c.requires.drafted.1)
