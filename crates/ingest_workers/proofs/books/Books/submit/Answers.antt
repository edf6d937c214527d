use Rattle.std.proofs.Common.{◌≡◌, [], ◌∷◌, ◌++◌, map, refl, sym, ap, ◌∙◌, subst}
use Rattle.std.proofs.lemmas.List.{map-append}
use Rattle.std.proofs.lemmas.Result.{err_from_is_err_and}
use Rattle.change_ops.specs.Spelling.{change_text}
use Rattle.hub_core.specs.Machine.{Core}
use Rattle.hub_core.specs.Consistent.{IsConsistent}
use Rattle.subscriber_queues.specs.Queue.{QueueSink, was_sent, IsFull}
use Rattle.ingest_workers.proofs.Counters.{greatest_of_more}
use Rattle.ingest_workers.proofs.House.{kept_same, made, made_refused}
use Rattle.ingest_workers.proofs.books.Books.submit.Goals as goal

pub invariant_of-self : goal.invariant_of-self
invariant_of-self g c = kept_same _ g.N.Naming.size _ _ _ _ _ _ c.refuse_submit.ensures.records.happens.0 refl c.self.invariant

pub returns-then-is_full-clause-call : goal.returns-then-is_full-clause-call
returns-then-is_full-clause-call g c =
    made_refused g.N.Naming.size _ _ _ _ _ _ c.core-core.ensures.run c.refuse_submit.ensures.records c.self.invariant.4 c.self.invariant.7

pub invariant_of-self-in_default : goal.invariant_of-self-in_default
invariant_of-self-in_default g c =
    kept_same _ g.N.Naming.size _ _ _ _ _ _ c.refuse_submit-in_default.ensures.records.happens.0 c.next_text.ensures.same c.self.invariant

pub returns-in_default-clause-call : goal.returns-in_default-clause-call
returns-in_default-clause-call g c =
    made_refused g.N.Naming.size _ _ _ _ _ _ c.core-core.ensures.run c.refuse_submit-in_default.ensures.records c.self.invariant.4 c.self.invariant.7

pub submit-token-requires-clause-spelled : goal.submit-token-requires-clause-spelled
submit-token-requires-clause-spelled g c = c.in-Ok.ensures.text.1

pub invariant_of-self-in_err-token : goal.invariant_of-self-in_err-token
invariant_of-self-in_err-token g c =
    kept_same _ g.N.Naming.size _ _ _ _ _ _ c.in_err-token.ensures.records.happens.0 c.next_text.ensures.same c.self.invariant

pub returns-in_err-token-clause-call : goal.returns-in_err-token-clause-call
returns-in_err-token-clause-call g c =
    let p = err_from_is_err_and c.from_residual.result c.from_residual.ensures.1 in
    rw (p.1, p.2) (made_refused g.N.Naming.size _ _ _ _ _ _ c.core-core.ensures.run c.in_err-token.ensures.records c.self.invariant.4 c.self.invariant.7)

pub invariant_of-self-2 : goal.invariant_of-self-2
invariant_of-self-2 g c =
    let old = c.self.inside.recorded.core.changes in
    let new = c.submit-token.new.core.core.changes in
    let added : new ≡ old ++ c.args.change ∷ [] = ap (λ (s : Core QueueSink). s.changes) c.in_ok-token.ensures.records.happens.2 in (
      c.self.invariant.0,
      c.self.invariant.1,
      c.self.invariant.2,
      c.self.invariant.3,
      subst (IsConsistent was_sent IsFull) c.core.ensures.core c.stays_consistent.ensures.consistent,
      c.push_reserved.ensures.items
          ∙ ap (λ l. l ++ c.in-Ok.text ∷ []) (c.in-Ok.ensures.same ∙ c.self.invariant.5)
          ∙ ap (λ text. map change_text old ++ text ∷ []) c.in-Ok.ensures.text.0
          ∙ sym (map-append change_text old (c.args.change ∷ []))
          ∙ ap (λ l. map change_text l) (sym added),
      greatest_of_more old new c.args.change c.self.inside.greatest _ added c.self.invariant.6 c.greatest_with-greatest.ensures,
      ap (λ (s : Core QueueSink). s.size) (sym c.core.ensures.core) ∙ c.stays_consistent.ensures.size,
    )

pub returns-clause-call : goal.returns-clause-call
returns-clause-call g c =
    made g.N.Naming.size _ _ _ _ _ _ c.core-core.ensures.run c.in_ok-token.ensures.records c.self.invariant.4 c.self.invariant.7
    (subst (IsConsistent was_sent IsFull) c.core.ensures.core c.stays_consistent.ensures.consistent)
    (ap (λ (s : Core QueueSink). s.size) (sym c.core.ensures.core) ∙ c.stays_consistent.ensures.size)
