use Rattle.std.proofs.Common.{◌≡◌, ◌∷◌, [], ◌+◌, ◌≤◌, ◌++◌, List, length, refl, sym, ap, subst, ◌∙◌, append_assoc, append-nil, arith, vec_len, vec_capacity}
use Rattle.std.specs.Prelude.{All}
use Rattle.std.specs.Vec.Iter.{into_iter_items}
use Rattle.std.proofs.lemmas.List.Elements.{All-head, All-tail}
use Rattle.semantics.specs.Step.{Program}
use Rattle.version_history.specs.Tokens.{Token}
use Rattle.hub_core.specs.declared.run.Event.{Event}
use Rattle.hub_core.specs.Runs.{IsFreshEvent}
use Rattle.hub_core.proofs.Running.{ran_none, ran_more, ran_all, nothing_left, on_ok}
use Rattle.hub_core.proofs.run.run_events.Goals as goal

pub loop-event-init : goal.loop-event-init
loop-event-init g c =
    let gives = c.into_iter-event-iterator.ensures.into_iter_gives in
    let room = on_ok c.reserve.result (vec_len c.reserve.new.self + c.len-2.result ≤ vec_capacity c.reserve.new.self) c.if-is_err.ensures.value c.reserve.ensures.ok in
    record {
      ran = ran_none g.S.Sink.sent g.S.Sink.full g.S.Sink.closed g.S.Sink.bare c.reserve.new.self.items c.in_ok-jobs.jobs.items c.args.core.now c.in_ok-jobs.ensures.items;
      rest = refl;
      count = omega (arith, gives.1, ap length gives.0);
      fresh = subst (λ (l : List (Event (Token Program) g.row.S.Denot)). All (IsFreshEvent g.S.Sink.sent g.S.Sink.promise g.N.Naming.size) l) (sym gives.0) c.requires;
      job_room = omega (arith, gives.1, c.in_ok-jobs.ensures.capacity, c.in_ok-jobs.ensures.len);
      reply_room = omega (arith, gives.1, room, c.len-2.ensures);
    }

pub run_event-reply-requires-clause-fresh : goal.run_event-reply-requires-clause-fresh
run_event-reply-requires-clause-fresh g c =
    let steps : into_iter_items c.loop-event.event-iterator ≡ c.in-Some.event ∷ into_iter_items c.next.new.self = c.in-Some.ensures.steps.0 in
    All-head (IsFreshEvent g.S.Sink.sent g.S.Sink.promise g.N.Naming.size) c.in-Some.event (into_iter_items c.next.new.self)
    (subst (λ (l : List (Event (Token Program) g.row.S.Denot)). All (IsFreshEvent g.S.Sink.sent g.S.Sink.promise g.N.Naming.size) l) steps c.loop-event.invariant.fresh)

pub loop-event-preserved : goal.loop-event-preserved
loop-event-preserved g c =
    let at = c.loop-event in
    let steps : into_iter_items c.loop-event.event-iterator ≡ c.in-Some.event ∷ into_iter_items c.next.new.self = c.in-Some.ensures.steps.0 in
    let gone = c.in-Some.ensures.steps.1 in
    let short = ap length steps in
    record {
      ran = ran_more g.S.Sink.sent g.S.Sink.full g.S.Sink.closed g.S.Sink.bare c.reserve.new.self.items c.loop-event.replies.items c.push_reserved.new.self.items c.loop-event.jobs.items c.run_event-reply.new.jobs.items
          c.args.core.now c.loop-event.core c.run_event-reply.new.core c.loop-event.yielded c.in-Some.event c.run_event-reply.result
          c.loop-event.invariant.ran c.run_event-reply.ensures.happens c.run_event-reply.ensures.jobs c.push_reserved.ensures.items;
      rest = append_assoc c.loop-event.yielded (c.in-Some.event ∷ []) (into_iter_items c.next.new.self) ∙ ap (λ l. c.loop-event.yielded ++ l) (sym steps) ∙ c.loop-event.invariant.rest;
      count = omega (arith, gone, short, c.loop-event.invariant.count);
      fresh = All-tail (IsFreshEvent g.S.Sink.sent g.S.Sink.promise g.N.Naming.size) c.in-Some.event (into_iter_items c.next.new.self)
          (subst (λ (l : List (Event (Token Program) g.row.S.Denot)). All (IsFreshEvent g.S.Sink.sent g.S.Sink.promise g.N.Naming.size) l) steps c.loop-event.invariant.fresh);
      job_room = omega (arith, gone, c.run_event-reply.ensures.room, c.loop-event.invariant.job_room);
      reply_room = omega (arith, gone, c.push_reserved.ensures.len, c.push_reserved.ensures.capacity, c.loop-event.invariant.reply_room);
    }

pub returns : goal.returns
returns g c =
    let none = c.in-None.ensures.steps in
    let gives = c.into_iter-event-iterator.ensures.into_iter_gives in
    let empty : into_iter_items c.loop-event.event-iterator ≡ [] = nothing_left (into_iter_items c.loop-event.event-iterator) (sym c.loop-event.invariant.count ∙ none.0) in
    let all : c.loop-event.yielded ≡ c.args.events.items =
    sym (append-nil c.loop-event.yielded) ∙ ap (λ l. c.loop-event.yielded ++ l) (sym empty) ∙ c.loop-event.invariant.rest ∙ gives.0 in
    record {
      ok = ran_all g.S.Sink.sent g.S.Sink.full g.S.Sink.closed g.S.Sink.bare c.args.replies.now.items c.reserve.new.self.items c.loop-event.replies.items c.loop-event.jobs.items c.args.core.now c.loop-event.core c.loop-event.yielded c.args.events.items
          c.loop-event.invariant.ran c.reserve.ensures.items all;
      err = tt;
    }
