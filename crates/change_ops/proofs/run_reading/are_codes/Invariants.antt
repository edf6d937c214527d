use Rattle.std.proofs.Common.{◌≡◌}
use denote.Shadow.{shadow}
use denote.Text.{Utf8}
use Rattle.std.specs.Prelude.{is_some}
use Rattle.change_ops.specs.Reading.{characters_at}
use Rattle.change_ops.proofs.CodeLoops.{left}
use Rattle.change_ops.proofs.run_reading.are_codes.Given as goal

abbrev pub invariant-loop-index : goal.invariant-loop-index
invariant-loop-index l = record {
  text : shadow (Utf8 l.rest);
  same : is_some (characters_at (left l.count l.index) l.rest) ≡ is_some (characters_at l.fn.count l.fn.fields);
}
