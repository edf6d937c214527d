use Rattle.std.proofs.Common.{◌≡◌, ◌++◌, length}
use Rattle.std.specs.Vec.Iter.{into_iter_items, into_iter_len}
use Rattle.hub_sessions.specs.Sessions.{ClosesAll}
use Rattle.hub_sessions.proofs.conversation.close_all.Given as goal

abbrev pub invariant-loop-one : goal.invariant-loop-one
invariant-loop-one g l = record {
  closed : ClosesAll g.N.Naming.size l.initial.share l.share l.yielded;
  rest : l.yielded ++ into_iter_items l.one-iterator ≡ into_iter_items l.initial.one-iterator;
  count : into_iter_len l.one-iterator ≡ length (into_iter_items l.one-iterator);
}
