use Rattle.std.proofs.Common.{◌≡◌, ◌∷◌, [], ◌++◌, List, length, refl, sym, ap, subst, ◌∙◌, append_assoc, append-nil, arith}
use Rattle.std.specs.Vec.Iter.{into_iter_items}
use Rattle.replica.specs.Messages.{Message}
use Rattle.replica.specs.Replicas.{Hands}
use Rattle.replica.proofs.Handing.{hands_more, nothing_left}
use Rattle.replica.proofs.replica.Replica.deliver_all.Goals as goal

pub loop-message-init : goal.loop-message-init
loop-message-init c =
    let gives = c.into_iter-message-iterator.ensures.into_iter_gives in
    record { handed = refl; rest = refl; count = omega (arith, gives.1, ap length gives.0) }

pub loop-message-preserved : goal.loop-message-preserved
loop-message-preserved c =
    let steps : into_iter_items c.loop-message.message-iterator ≡ c.in-Some.message ∷ into_iter_items c.next.new.self = c.in-Some.ensures.steps.0 in
    let gone = c.in-Some.ensures.steps.1 in
    let short = ap length steps in
    record {
      handed = hands_more c.loop-message.yielded c.args.self.now c.loop-message.self c.deliver.new.self c.in-Some.message c.in_ok-_delivered._delivered c.loop-message.invariant.handed c.in_ok-_delivered.ensures.delivered;
      rest = append_assoc c.loop-message.yielded (c.in-Some.message ∷ []) (into_iter_items c.next.new.self) ∙ ap (λ l. c.loop-message.yielded ++ l) (sym steps) ∙ c.loop-message.invariant.rest;
      count = omega (arith, gone, short, c.loop-message.invariant.count);
    }

pub returns : goal.returns
returns c =
    let none = c.in-None.ensures.steps in
    let gives = c.into_iter-message-iterator.ensures.into_iter_gives in
    let empty : into_iter_items c.loop-message.message-iterator ≡ [] = nothing_left (into_iter_items c.loop-message.message-iterator) (sym c.loop-message.invariant.count ∙ none.0) in
    let all : c.loop-message.yielded ≡ c.args.schedule.items =
    sym (append-nil c.loop-message.yielded) ∙ ap (λ l. c.loop-message.yielded ++ l) (sym empty) ∙ c.loop-message.invariant.rest ∙ gives.0 in
    subst (λ (ms : List Message). Hands c.args.self.now ms c.loop-message.self) all c.loop-message.invariant.handed
