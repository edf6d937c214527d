use Rattle.std.specs.Vec.Iter.{into_iter_items}
use Rattle.change_keeping.specs.Groups.{AreTold}
use Rattle.change_keeping.proofs.group.tell_all.Given as goal

abbrev pub invariant-loop-request : goal.invariant-loop-request
invariant-loop-request g l = record {
  next : (goal.iterator-loop-request g).can_next l.request-iterator;
  ends : (goal.iterator-loop-request g).is_finite l.request-iterator;
  told : AreTold g.N.Keeping.kept (into_iter_items l.request-iterator) (into_iter_items l.answers);
}
