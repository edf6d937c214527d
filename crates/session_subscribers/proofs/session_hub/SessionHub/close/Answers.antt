use Rattle.std.proofs.Common.{refl, sym, ap, ◌∙◌}
use Rattle.ingest_workers.proofs.Calls.{makes_call}
use Rattle.session_subscribers.specs.Holding.{index_in}
use Rattle.session_subscribers.proofs.session_hub.SessionHub.close.Goals as goal

pub returns-in_default : goal.returns-in_default
returns-in_default g c = (refl, sym (c.in_default.ensures ∙ ap (λ l. index_in l c.args.id) c.as_slice.ensures.value), refl, refl)

pub returns : goal.returns
returns g c = (refl, c.in-Some.index, sym (c.in-Some.ensures ∙ ap (λ l. index_in l c.args.id) c.as_slice.ensures.value), c.remove-one.ensures.items, c.close.result, makes_call g.N.Naming.size _ _ _ _ c.close.ensures)
