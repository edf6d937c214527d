use Rattle.std.proofs.Common.{◌≡◌, length}
use denote.Shadow.{shadow}
use denote.Text.{Utf8}
use Rattle.hub_commands.specs.ChangesInput.{Advances}
use Rattle.hub_commands.proofs.changes_input.take_changes.Given as goal

abbrev pub invariant-loop-alloc : goal.invariant-loop-alloc
invariant-loop-alloc l = record {
  text : shadow (Utf8 l.rest);
  taken : Advances l.fn.history.size l.fn.history.changes l.fn.text l.history.changes l.rest;
  size : l.history.size ≡ l.fn.history.size;
}

abbrev pub decreases-loop-alloc : goal.decreases-loop-alloc
decreases-loop-alloc l = length l.rest
