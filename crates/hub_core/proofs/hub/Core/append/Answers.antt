use Rattle.std.proofs.Common.{◌∙◌, sym, subst}
use Rattle.change_ops.specs.Changes.{Change}
use Rattle.change_history.specs.Kept.{IsDraft}
use Rattle.hub_core.specs.Machine.{Core}
use Rattle.hub_core.proofs.Sound.{has_latest, sound_accepted, submitted}
use Rattle.hub_core.proofs.hub.Core.append.Goals as goal

pub append_draft-token-requires-clause-published : goal.append_draft-token-requires-clause-published
append_draft-token-requires-clause-published g c = has_latest g.S.Sink.sent g.S.Sink.full _ c.self.invariant.1

pub invariant_of-self : goal.invariant_of-self
invariant_of-self g c =
    let change : Change = c.requires.0 in
    let draft : IsDraft c.self.inside.history.size c.self.inside.history.changes change c.args.draft =
    subst (λ (z : Core g.row.S.Denot). IsDraft z.size z.changes change c.args.draft) (sym c.self.view_is) c.requires.1 in (
      c.append_draft-token.ensures.size ∙ c.self.invariant.0,
      sound_accepted g.S.Sink.sent g.S.Sink.full _ change c.append_draft-token.result _ _ _ c.self.invariant.1 (c.append_draft-token.ensures.accepts change draft) c.append_draft-token.ensures.size,
      c.self.invariant.2,
    )

pub invariant_of-self-else-is_ok : goal.invariant_of-self-else-is_ok
invariant_of-self-else-is_ok g c =
    let change : Change = c.requires.0 in
    let draft : IsDraft c.self.inside.history.size c.self.inside.history.changes change c.args.draft =
    subst (λ (z : Core g.row.S.Denot). IsDraft z.size z.changes change c.args.draft) (sym c.self.view_is) c.requires.1 in (
      c.append_draft-token.ensures.size ∙ c.self.invariant.0,
      sound_accepted g.S.Sink.sent g.S.Sink.full _ change c.append_draft-token.result _ _ _ c.self.invariant.1 (c.append_draft-token.ensures.accepts change draft) c.append_draft-token.ensures.size,
      c.self.invariant.2,
    )

pub returns-then-is_ok : goal.returns-then-is_ok
returns-then-is_ok g c = λ change drafted.
    let draft : IsDraft c.self.inside.history.size c.self.inside.history.changes change c.args.draft =
    subst (λ (z : Core g.row.S.Denot). IsDraft z.size z.changes change c.args.draft) (sym c.self.view_is) drafted in
    submitted c.args.self.now _ change c.append_draft-token.result _ _ _ c.self.view_is (c.append_draft-token.ensures.accepts change draft) c.append_draft-token.ensures.size

pub returns-else-is_ok : goal.returns-else-is_ok
returns-else-is_ok g c = λ change drafted.
    let draft : IsDraft c.self.inside.history.size c.self.inside.history.changes change c.args.draft =
    subst (λ (z : Core g.row.S.Denot). IsDraft z.size z.changes change c.args.draft) (sym c.self.view_is) drafted in
    submitted c.args.self.now _ change c.append_draft-token.result _ _ _ c.self.view_is (c.append_draft-token.ensures.accepts change draft) c.append_draft-token.ensures.size
