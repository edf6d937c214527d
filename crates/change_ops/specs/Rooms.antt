-- How much more a change may hold: operations of its 256, and operations that it means.
use Rattle.std.specs.Prelude.{ℕ, ◌-◌, nat_le, ◌&&◌, min, Bool, List, length}
use Rattle.change_ops.specs.Lines.{ops_of, ops_of_lines, count_of, count_of_lines}
use Rattle.change_ops.specs.declared.line.Line.{Line}
use Rattle.change_ops.specs.declared.room.Room.{Room}

-- the room of a whole change
abbrev pub whole_room : Room
whole_room = record { operations = 256; meant = 262144 }

abbrev pub line_fits : Room → Line → Bool
line_fits room line = nat_le (count_of line) room.operations && nat_le (length (ops_of line)) room.meant

-- what is left behind a line, and behind several
abbrev pub room_behind : Room → Line → Room
room_behind room line =
    record { operations = room.operations - count_of line; meant = room.meant - length (ops_of line) }

abbrev pub room_left : Room → List Line → Room
room_left room lines =
    record { operations = room.operations - count_of_lines lines; meant = room.meant - length (ops_of_lines lines) }

-- how many operations more there may be, if each means itself alone
abbrev pub single_room : Room → ℕ
single_room room = min room.operations room.meant
