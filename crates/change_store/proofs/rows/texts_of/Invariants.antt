use Rattle.std.proofs.Common.{◌≡◌, ◌≤◌, length, take, vec_len, vec_capacity}
use Rattle.change_store.specs.Store.{numbered}
use Rattle.change_store.proofs.rows.texts_of.Given as goal

abbrev pub invariant-loop-row : goal.invariant-loop-row
invariant-loop-row l = record {
  read : take l.row-index l.rows ≡ numbered 0 l.texts.items;
  number : l.number ≡ l.row-index;
  count : vec_len l.texts ≡ l.row-index;
  room : length l.rows ≤ vec_capacity l.texts;
}
