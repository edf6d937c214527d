use Rattle.std.proofs.Common.{◌≡◌, ◌∷◌, [], ◌++◌, List, length, sym, ap, subst, ◌∙◌, append_assoc, append-nil, arith}
use Rattle.std.specs.Vec.Iter.{into_iter_items}
use Rattle.session_subscribers.specs.Holding.{Held}
use Rattle.hub_core.specs.declared.run.Reply.TheVariants as told
use Rattle.core_history.specs.declared.entry.Call.TheVariants as call
use Rattle.ingest_workers.specs.Calls.{IsCall}
use Rattle.hub_sessions.specs.Sessions.{ClosesAll}
use Rattle.hub_sessions.proofs.Conversing.{closed_more, nothing_left}
use Rattle.hub_sessions.proofs.conversation.close_all.Goals as goal

pub loop-one-preserved : goal.loop-one-preserved
loop-one-preserved g c =
    let steps : into_iter_items c.loop-one.one-iterator ≡ c.in-Some.one ∷ into_iter_items c.next.new.self = c.in-Some.ensures.steps.0 in
    let gone = c.in-Some.ensures.steps.1 in
    let short = ap length steps in
    let made = subst (λ id. IsCall g.N.Naming.size c.loop-one.share (call.Close id) (told.Closed c.close.result) c.close.new.share) (ap (λ (z : Held). z.id) c.one.view_is) c.close.ensures in
    record {
      closed = closed_more g.N.Naming.size c.args.share.now c.loop-one.yielded c.in-Some.one c.close.result c.loop-one.share c.close.new.share c.loop-one.invariant.closed made;
      rest = append_assoc c.loop-one.yielded (c.in-Some.one ∷ []) (into_iter_items c.next.new.self) ∙ ap (λ l. c.loop-one.yielded ++ l) (sym steps) ∙ c.loop-one.invariant.rest;
      count = omega (arith, gone, short, c.loop-one.invariant.count);
    }

pub returns : goal.returns
returns g c =
    let none = c.in-None.ensures.steps in
    let gives = c.into_iter-one-iterator.ensures.into_iter_gives in
    let empty : into_iter_items c.loop-one.one-iterator ≡ [] = nothing_left (into_iter_items c.loop-one.one-iterator) (sym c.loop-one.invariant.count ∙ none.0) in
    let all : c.loop-one.yielded ≡ c.args.held.items =
    sym (append-nil c.loop-one.yielded) ∙ ap (λ l. c.loop-one.yielded ++ l) (sym empty) ∙ c.loop-one.invariant.rest ∙ gives.0 in
    subst (λ (l : List Held). ClosesAll g.N.Naming.size c.args.share.now c.loop-one.share l) all c.loop-one.invariant.closed
