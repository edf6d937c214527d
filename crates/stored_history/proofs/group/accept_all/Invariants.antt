use Rattle.std.proofs.Common.{◌≡◌, ◌+◌, ◌≤◌, ◌++◌, length, map, vec_len, vec_capacity}
use Rattle.std.specs.Vec.Iter.{into_iter_items, into_iter_len}
use Rattle.change_ops.specs.Spelling.{change_text}
use Rattle.stored_history.specs.Answers.{AreAnswered}
use Rattle.stored_history.proofs.group.accept_all.Given as goal

abbrev pub invariant-loop-change : goal.invariant-loop-change
invariant-loop-change l = record {
  answered : AreAnswered l.initial.history.size l.initial.history.changes l.yielded l.answers.items l.history.changes;
  size : l.history.size ≡ l.initial.history.size;
  texts : map change_text l.initial.history.changes ++ l.texts.items ≡ map change_text l.history.changes;
  rest : l.yielded ++ into_iter_items l.change-iterator ≡ into_iter_items l.initial.change-iterator;
  count : into_iter_len l.change-iterator ≡ length (into_iter_items l.change-iterator);
  room : vec_len l.answers + into_iter_len l.change-iterator ≤ vec_capacity l.answers;
}
