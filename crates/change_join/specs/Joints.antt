-- What is kept of a change that is put together.
use Rattle.std.specs.Prelude.{◌≡◌, length, string_bytes}
use Rattle.change_ops.specs.Changes.{Change, IsChange, operations}
use Rattle.change_ops.specs.Lines.{count_of_lines}
use Rattle.change_ops.specs.Spelling.{lines_text}
use Rattle.change_join.specs.declared.joint.Joint.{Joint}

-- this is the change
pub record IsJoint (change : Change) (joint : Joint) : Type 0 where
  pub limits : IsChange change
  pub form : joint.form ≡ change.form
  pub node : joint.node ≡ change.node
  pub meant : joint.meant ≡ length (operations change)
  pub operations : joint.operations ≡ count_of_lines change.lines
  pub lines : joint.lines ≡ length change.lines
  pub text : string_bytes joint.text ≡ lines_text change.lines
