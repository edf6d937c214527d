use Rattle.std.proofs.Common.{◌≡◌, ◌++◌, length}
use Rattle.std.specs.Vec.Iter.{into_iter_items, into_iter_len}
use Rattle.replica.specs.Replicas.{Hands}
use Rattle.replica.proofs.replica.Replica.deliver_all.Given as goal

abbrev pub invariant-loop-message : goal.invariant-loop-message
invariant-loop-message l = record {
  handed : Hands l.fn.self l.yielded l.self;
  rest : l.yielded ++ into_iter_items l.message-iterator ≡ into_iter_items l.initial.message-iterator;
  count : into_iter_len l.message-iterator ≡ length (into_iter_items l.message-iterator);
}
