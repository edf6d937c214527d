use Rattle.std.proofs.Common.{Option, ap, subst}
use Rattle.abstract_state.specs.declared.known.Known.{Known}
use Rattle.abstract_state.specs.declared.slot.Slot.{Slot}
use Rattle.abstract_state.specs.Known.{AreNumbers}
use Rattle.abstract_state.specs.Kinds.{IsMarked, spilled_in}
use Rattle.abstract_state.proofs.Joins.{held, some_none, joins_held, joins_from}
use Rattle.abstract_state.proofs.stack.join.Goals as goal

pub returns-in-Some-clause-joins : goal.returns-in-Some-clause-joins
returns-in-Some-clause-joins c = record {
  spilled =
      joins_from _ _ _ _ _ c.join.result (ap spilled_in c.in-Spilled-Spilled.is-0) (ap spilled_in c.in-Spilled-Spilled.is-1) (ap held c.in-Some.is)
      (joins_held _ _ c.join.result c.join.ensures.numbers c.join.ensures.values c.join.ensures.lent c.join.ensures.context c.join.ensures.stack);
  marked = λ j h p q.
      subst (λ (o : Option Known). AreNumbers o) c.in-Some.is
      (c.join.ensures.numbers (subst (λ (s : Slot). IsMarked s j) c.in-Spilled-Spilled.is-0 p) (subst (λ (s : Slot). IsMarked s j) c.in-Spilled-Spilled.is-1 q)).1;
}

pub returns-in-None-clause-joins : goal.returns-in-None-clause-joins
returns-in-None-clause-joins c = record {
  spilled =
      joins_from _ _ _ _ _ c.join.result (ap spilled_in c.in-Spilled-Spilled.is-0) (ap spilled_in c.in-Spilled-Spilled.is-1) (ap held c.in-None.is)
      (joins_held _ _ c.join.result c.join.ensures.numbers c.join.ensures.values c.join.ensures.lent c.join.ensures.context c.join.ensures.stack);
  marked = λ j h p q.
      absurd (some_none _ c.in-None.is
      (c.join.ensures.numbers (subst (λ (s : Slot). IsMarked s j) c.in-Spilled-Spilled.is-0 p) (subst (λ (s : Slot). IsMarked s j) c.in-Spilled-Spilled.is-1 q)).0);
}
