use Rattle.std.proofs.Common.{◌≡◌, Option, Result, Ok, None, refl, sym, ap, ◌∙◌, subst}
use Rattle.abstract_state.specs.declared.refusal.Refusal.{Refusal}
use Rattle.abstract_state.specs.declared.state.AbsState.{AbsState}
use Rattle.abstract_state.specs.declared.step.Flow.{Flow}
use Rattle.abstract_state.specs.Branch.{Edge}
use Rattle.abstract_state.specs.Steps.{after}
use Rattle.abstract_state.specs.Situation.{Situation, situation_of}
use Rattle.abstract_state.specs.Edges.{edge}
use Rattle.abstract_state.proofs.Edges.{answers_ok, shows_live}
use Rattle.value_marks.specs.Marking.{marking_of}
use Rattle.value_marks.specs.Copies.{copies_tell, kept}
use Rattle.std.proofs.Common.{option_map}
use Rattle.tracked_state.proofs.Along.{along, along_nothing, told_after, told_soundly, none_left}
use Rattle.tracked_state.proofs.branch.go_along.Goals as goal

pub returns-in-Live-clause-along : goal.returns-in-Live-clause-along
returns-in-Live-clause-along c =
    let flow = c.in_ok-take_edge.field-0 in
    let state = c.take_edge.new.self in
    let e = c.in_ok-take_edge.ensures in
    let (was, is, flows) = answers_ok _ _ _ flow c.take_edge.ensures.rule c.in_ok-take_edge.was in
    along c.args.state.now c.args.copies.now c.args.width c.args.comparison c.args.left c.args.right.now c.args.taken (after flow state) (after c.tell.result c.tell.new.state) was e.sound e.others e.memory e.kinds
    (λ no r t p q side apart wide greater first second same tail. e.guards r t p q side apart wide greater no first second same tail)
    (told_soundly c.args.copies.now flow state c.tell.new.state c.tell.result c.in-Live.is c.tell.ensures.sound)
    (told_after flow state c.tell.new.state c.tell.result (copies_tell c.args.left c.args.right.now (option_map marking_of (kept c.args.copies.now))) c.in-Live.is c.tell.ensures.rule)
    (λ none. c.tell.ensures.untracked none ∙ sym (ap (λ (f : Flow). after f state) c.in-Live.is))
    is (shows_live was flow state (after flow state) flows refl)

pub returns-in-Dead-clause-along : goal.returns-in-Dead-clause-along
returns-in-Dead-clause-along c =
    let flow = c.in_ok-take_edge.field-0 in
    let state = c.take_edge.new.self in
    let (was, is, flows) = answers_ok _ _ _ flow c.take_edge.ensures.rule c.in_ok-take_edge.was in
    let none = none_left was flow state flows c.in-Dead.is in
    along_nothing c.args.state.now c.args.copies.now c.args.width c.args.comparison c.args.left c.args.right.now c.args.taken
    (subst (λ (f : Flow). Edge c.args.state.now c.args.width c.args.comparison c.args.left c.args.right.now c.args.taken (after f state)) c.in-Dead.is c.in_ok-take_edge.ensures.sound)
    (subst (λ (o : Option Situation). edge c.args.width c.args.comparison c.args.left c.args.right.now c.args.taken (situation_of c.args.state.now) ≡ Ok o) none is)
