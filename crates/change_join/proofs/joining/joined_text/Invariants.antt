use Rattle.std.proofs.Common.{◌≡◌, ◌++◌, drop}
use Rattle.std.specs.List.{flat_map}
use Rattle.std.specs.String.{string_bytes}
use Rattle.change_ops.specs.Changes.{Change}
use Rattle.change_ops.specs.Spelling.{change_text}
use Rattle.change_join.specs.Joined.{joined}
use Rattle.change_join.specs.Joints.{IsJoint}
use Rattle.change_join.proofs.Texts.{texts_with}
use Rattle.change_join.proofs.joining.joined_text.Given as goal

abbrev pub invariant-loop-change : goal.invariant-loop-change
invariant-loop-change l =
    (change : Change) × IsJoint change l.joint × (string_bytes l.text ++ texts_with change (drop l.change-index l.others) ≡ flat_map change_text (joined l.fn.changes))
