use Rattle.std.proofs.Common.{[], arith, ap, sym, ◌∙◌, subst}
use Rattle.std.proofs.lemmas.List.Elements.{All-nil, All-same}
use Rattle.subscriber_queues.specs.Queue.{was_sent, IsFull, closed_end, unsent}
use Rattle.core_history.specs.Hubs.{Seen, IsHubLegal}
use Rattle.ingest_workers.specs.Holdings.{IsIdle}
use Rattle.ingest_workers.proofs.Begins.{own_start, no_change, all_parts, none_changed, legal_start, house_begins}
use Rattle.ingest_workers.proofs.hub.Hub.new.Goals as goal

pub new-house-requires-clause-own : goal.new-house-requires-clause-own
new-house-requires-clause-own g c = own_start _ _ _ _ _ c.new-recorded.ensures.starts

pub new-house-requires-clause-none : goal.new-house-requires-clause-none
new-house-requires-clause-none g c = no_change _ _ _ _ _ c.new-recorded.ensures.starts

pub cut_all-requires-clause-parts : goal.cut_all-requires-clause-parts
cut_all-requires-clause-parts g c =
    ap (λ (w : Seen). w.parts) c.new-house.ensures ∙ all_parts _ _ _ _ _ c.new-recorded.ensures.starts ∙ c.requires.parts.1

pub cut_all-requires-clause-legal : goal.cut_all-requires-clause-legal
cut_all-requires-clause-legal g c =
    subst (λ (w : Seen). IsHubLegal g.N.Naming.size w.seen) (sym c.new-house.ensures) (legal_start _ _ _ _ _ c.new-recorded.ensures.starts was_sent IsFull closed_end unsent)

pub new-books-requires-clause-none : goal.new-books-requires-clause-none
new-books-requires-clause-none g c = none_changed _ _ _ _ _ c.new-recorded.ensures.starts

pub new-books-requires-clause-house : goal.new-books-requires-clause-house
new-books-requires-clause-house g c = house_begins _ _ _ _ _ c.new-recorded.ensures.starts _ _ c.new-house.ensures c.cut_all.ensures.left

pub returns : goal.returns
returns g c = (
  omega (arith, c.cut_all.ensures.count, c.in_ok-given.ensures.len),
  c.cut_all.ensures.idle (All-same (IsIdle g.N.Naming.size) _ [] c.in_ok-given.ensures.items (All-nil (IsIdle g.N.Naming.size))),
)
