use Rattle.std.proofs.Common.{◌≡◌, List, length}
use Rattle.std.specs.Prelude.{All}
use Rattle.std.specs.List.{flat_map}
use denote.Shadow.{shadow}
use denote.Text.{Utf8}
use Rattle.change_ops.specs.Changes.{Change, IsChange}
use Rattle.change_ops.specs.Spelling.{change_text}
use Rattle.hub_commands.proofs.KeptInputs.{Left}
use Rattle.hub_commands.proofs.join.changes_of.Given as goal

abbrev pub invariant-loop-rest : goal.invariant-loop-rest
invariant-loop-rest l = record {
  text : shadow (Utf8 l.rest);
  left : (all : List Change) → All IsChange all → l.fn.text ≡ flat_map change_text all → Left all l.changes.items l.rest;
}

abbrev pub decreases-loop-rest : goal.decreases-loop-rest
decreases-loop-rest l = length l.rest
