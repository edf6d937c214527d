use Rattle.std.proofs.Common.{◌≡◌, ℕ, ◌∷◌, [], ◌++◌, List, Ok, length, refl, sym, ap, subst, ◌∙◌, append_assoc, append-nil, arith, of_calls}
use Rattle.std.specs.Vec.Iter.{into_iter_items}
use Rattle.change_ops.specs.Changes.{Change}
use Rattle.stored_history.specs.Texts.{IsTextOf}
use Rattle.core_history.specs.Shares.{accepted_count}
use Rattle.ingest_workers.specs.Holdings.{Ingests}
use Rattle.hub_restoring.specs.Restoring.{AreRestored}
use Rattle.hub_restoring.proofs.Growing.{restored_none, restored_more, nothing_left}
use Rattle.hub_restoring.proofs.restoring.restore_all.Goals as goal

pub loop-text-init : goal.loop-text-init
loop-text-init g c =
    let gives = c.into_iter-text-iterator.ensures.into_iter_gives in
    record {
      callable = search of_calls;
      restored = restored_none g.N.Naming.size c.args.share.now;
      rest = refl;
      count = omega (arith, gives.1, ap length gives.0);
    }

pub loop-text-preserved : goal.loop-text-preserved
loop-text-preserved g c =
    let steps : into_iter_items c.loop-text.text-iterator ≡ c.in-Some.text ∷ into_iter_items c.next.new.self = c.in-Some.ensures.steps.0 in
    let gone = c.in-Some.ensures.steps.1 in
    let short = ap length steps in
    let new = c.restore_one.new.share in
    record {
      callable = search of_calls;
      restored = restored_more g.N.Naming.size c.args.share.now c.loop-text.yielded c.in-Some.text c.loop-text.share new c.loop-text.invariant.restored
          (subst (λ (text : List ℕ). (change : Change) → IsTextOf text change → Ingests g.N.Naming.size c.loop-text.share change (Ok (accepted_count new)) new) c.as_str.ensures c.in_ok-restore_one.ensures);
      rest = append_assoc c.loop-text.yielded (c.in-Some.text ∷ []) (into_iter_items c.next.new.self) ∙ ap (λ l. c.loop-text.yielded ++ l) (sym steps) ∙ c.loop-text.invariant.rest;
      count = omega (arith, gone, short, c.loop-text.invariant.count);
    }

pub returns : goal.returns
returns g c =
    let none = c.in-None.ensures.steps in
    let gives = c.into_iter-text-iterator.ensures.into_iter_gives in
    let empty : into_iter_items c.loop-text.text-iterator ≡ [] = nothing_left (into_iter_items c.loop-text.text-iterator) (sym c.loop-text.invariant.count ∙ none.0) in
    let all : c.loop-text.yielded ≡ c.args.texts.items =
    sym (append-nil c.loop-text.yielded) ∙ ap (λ l. c.loop-text.yielded ++ l) (sym empty) ∙ c.loop-text.invariant.rest ∙ gives.0 in
    subst (λ (texts : List (List ℕ)). AreRestored g.N.Naming.size c.args.share.now texts c.loop-text.share) all c.loop-text.invariant.restored
