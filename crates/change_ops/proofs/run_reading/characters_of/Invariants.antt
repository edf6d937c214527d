use Rattle.std.proofs.Common.{◌≡◌}
use denote.Shadow.{shadow}
use denote.Text.{Utf8}
use Rattle.change_ops.specs.Reading.{characters_at, encoded_all, with_characters}
use Rattle.change_ops.proofs.CodeLoops.{left}
use Rattle.change_ops.proofs.run_reading.characters_of.Given as goal

abbrev pub invariant-loop-index : goal.invariant-loop-index
invariant-loop-index l = record {
  text : shadow (Utf8 l.rest);
  same : with_characters l.characters.items (encoded_all (characters_at (left l.count l.index) l.rest)) ≡ encoded_all (characters_at l.fn.count l.fn.fields);
}
