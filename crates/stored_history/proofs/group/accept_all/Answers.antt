use Rattle.std.proofs.Common.{◌≡◌, ◌∷◌, [], ◌++◌, List, Result, map, length, refl, sym, ap, subst, ◌∙◌, append_assoc, append-nil, arith}
use Rattle.std.specs.Vec.Iter.{into_iter_items}
use Rattle.change_ops.specs.Changes.{Change}
use Rattle.change_ops.specs.declared.size.Size.{Size}
use Rattle.change_ops.specs.Spelling.{change_text}
use Rattle.change_history.specs.declared.refusal.SubmitError.{SubmitError}
use Rattle.stored_history.specs.declared.answer.Accepted.{Accepted}
use Rattle.stored_history.specs.Answers.{IsAnswered, AreAnswered}
use Rattle.stored_history.proofs.Answering.{none_answered, more_answered, nothing_left}
use Rattle.stored_history.proofs.group.accept_all.Goals as goal

pub loop-change-init : goal.loop-change-init
loop-change-init c =
    let gives = c.into_iter-change-iterator.ensures.into_iter_gives in
    record {
      answered = none_answered c.args.history.now.size c.args.history.now.changes c.in_ok-answers.answers.items c.in_ok-answers.ensures.items;
      size = refl;
      texts = ap (λ ts. map change_text c.args.history.now.changes ++ ts) c.new-texts.ensures.items ∙ append-nil (map change_text c.args.history.now.changes);
      rest = refl;
      count = omega (arith, gives.1, ap length gives.0);
      room = omega (arith, gives.1, c.in_ok-answers.ensures.exact, c.in_ok-answers.ensures.len);
    }

pub loop-change-preserved : goal.loop-change-preserved
loop-change-preserved c =
    let steps : into_iter_items c.loop-change.change-iterator ≡ c.in-Some.change ∷ into_iter_items c.next.new.self = c.in-Some.ensures.steps.0 in
    let gone = c.in-Some.ensures.steps.1 in
    let short = ap length steps in
    record {
      answered = subst (λ (told : List (Result Accepted SubmitError)). AreAnswered c.args.history.now.size c.args.history.now.changes (c.loop-change.yielded ++ c.in-Some.change ∷ []) told c.accept_one.new.history.changes) (sym {A = List (Result Accepted SubmitError)} c.push_reserved.ensures.items)
          (more_answered c.args.history.now.size c.args.history.now.changes c.loop-change.history.changes c.accept_one.new.history.changes c.loop-change.yielded c.loop-change.answers.items c.in-Some.change c.accept_one.result c.loop-change.invariant.answered (subst (λ (s : Size). IsAnswered s c.loop-change.history.changes c.in-Some.change c.accept_one.result c.accept_one.new.history.changes) c.loop-change.invariant.size c.accept_one.ensures.answered));
      size = c.accept_one.ensures.size ∙ c.loop-change.invariant.size;
      texts = c.accept_one.ensures.texts (map change_text c.args.history.now.changes) c.loop-change.invariant.texts;
      rest = append_assoc c.loop-change.yielded (c.in-Some.change ∷ []) (into_iter_items c.next.new.self) ∙ ap (λ l. c.loop-change.yielded ++ l) (sym steps) ∙ c.loop-change.invariant.rest;
      count = omega (arith, gone, short, c.loop-change.invariant.count);
      room = omega (arith, gone, c.push_reserved.ensures.len, c.push_reserved.ensures.capacity, c.loop-change.invariant.room);
    }

pub returns : goal.returns
returns c =
    let none = c.in-None.ensures.steps in
    let gives = c.into_iter-change-iterator.ensures.into_iter_gives in
    let empty : into_iter_items c.loop-change.change-iterator ≡ [] = nothing_left (into_iter_items c.loop-change.change-iterator) (sym c.loop-change.invariant.count ∙ none.0) in
    let all : c.loop-change.yielded ≡ c.args.changes.items =
    sym (append-nil c.loop-change.yielded) ∙ ap (λ l. c.loop-change.yielded ++ l) (sym empty) ∙ c.loop-change.invariant.rest ∙ gives.0 in
    record {
      answered = subst (λ (cs : List Change). AreAnswered c.args.history.now.size c.args.history.now.changes cs c.loop-change.answers.items c.loop-change.history.changes) all c.loop-change.invariant.answered;
      texts = c.loop-change.invariant.texts;
      size = c.loop-change.invariant.size;
      err = tt;
    }
