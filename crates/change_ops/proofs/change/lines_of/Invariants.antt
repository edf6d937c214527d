use Rattle.std.proofs.Common.{◌≡◌, ◌+◌, ◌-◌, ◌≤◌}
use denote.Shadow.{shadow}
use denote.Text.{Utf8}
use Rattle.change_ops.specs.Changes.{lines_at}
use Rattle.change_ops.specs.Rooms.{whole_room}
use Rattle.change_ops.proofs.Loop.{with_front}
use Rattle.change_ops.proofs.change.lines_of.Given as goal

abbrev pub invariant-loop-index : goal.invariant-loop-index
invariant-loop-index l = record {
  text : shadow (Utf8 l.rest);
  room : l.room.operations ≤ 256;
  same : with_front l.lines.items (lines_at l.fn.form l.fn.peer l.room (l.index + 2) (l.count - l.index) l.rest) ≡ lines_at l.fn.form l.fn.peer whole_room 2 l.count l.fn.text;
}
