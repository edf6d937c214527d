use Rattle.std.proofs.Common.{◌≡◌, ◌++◌, length}
use Rattle.std.specs.Vec.Iter.{into_iter_items, into_iter_len}
use Rattle.hub_restoring.specs.Restoring.{AreRestored}
use Rattle.hub_restoring.proofs.restoring.restore_all.Given as goal

abbrev pub invariant-loop-text : goal.invariant-loop-text
invariant-loop-text g l = record {
  callable : goal.P-IsAlwaysCallable g l.progress;
  restored : AreRestored g.N.Naming.size l.initial.share l.yielded l.share;
  rest : l.yielded ++ into_iter_items l.text-iterator ≡ into_iter_items l.initial.text-iterator;
  count : into_iter_len l.text-iterator ≡ length (into_iter_items l.text-iterator);
}
