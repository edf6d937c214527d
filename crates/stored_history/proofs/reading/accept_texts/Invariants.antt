use Rattle.std.proofs.Common.{◌≡◌, length, take}
use Rattle.stored_history.specs.Texts.{AreTextsOf}
use Rattle.stored_history.proofs.reading.accept_texts.Given as goal

abbrev pub invariant-loop-index : goal.invariant-loop-index
invariant-loop-index l = record {
  size : l.history.size ≡ l.fn.size;
  read : AreTextsOf l.fn.size (take l.index l.texts) l.history.changes;
  count : length l.history.changes ≡ l.index;
}
