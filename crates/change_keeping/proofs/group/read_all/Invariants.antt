use Rattle.std.proofs.Common.{◌≡◌, ◌+◌, ◌≤◌, length, vec_len, vec_capacity}
use Rattle.std.specs.Vec.Iter.{into_iter_items, into_iter_len}
use Rattle.change_keeping.specs.Groups.{AreSpelled}
use Rattle.change_keeping.proofs.group.read_all.Given as goal

abbrev pub invariant-loop-request : goal.invariant-loop-request
invariant-loop-request g l = record {
  next : (goal.iterator-loop-request g).can_next l.request-iterator;
  ends : (goal.iterator-loop-request g).is_finite l.request-iterator;
  spelled : AreSpelled l.requests.items l.changes.items;
  count : into_iter_len l.request-iterator ≡ length (into_iter_items l.request-iterator);
  texts : vec_len l.requests + into_iter_len l.request-iterator ≤ vec_capacity l.requests;
  read : vec_len l.changes + into_iter_len l.request-iterator ≤ vec_capacity l.changes;
}
