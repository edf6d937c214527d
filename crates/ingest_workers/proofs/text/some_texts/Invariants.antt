use Rattle.std.proofs.Common.{◌≡◌, ◌≤◌, take, vec_len, vec_capacity}
use Rattle.ingest_workers.proofs.text.some_texts.Given as goal

abbrev pub invariant-loop-text : goal.invariant-loop-text
invariant-loop-text l = record {
  items : l.some.items ≡ take l.text-index l.text-items;
  len : vec_len l.some ≡ l.text-index;
  room : l.count ≤ vec_capacity l.some;
}
