-- The greatest counter of operations, and where a change goes above a number.
use Rattle.std.specs.Prelude.{ℕ, ◌+◌, max, nat_lt, Bool, List, [], ◌∷◌, Option, option_map, position}
use Rattle.change_ops.specs.Changes.{Change}
use Rattle.change_ops.specs.Lines.{ops_of}
use Rattle.change_ops.specs.Operations.{id_of}
use Rattle.change_ops.specs.declared.line.Line.{Line}
use Rattle.change_ops.specs.declared.operation.Op.{Op}

-- the greatest counter of operations, 0 where there are none
unfoldable pub greatest_counter : List Op → ℕ
greatest_counter [] = 0
greatest_counter (op ∷ ops) = max (id_of op).counter (greatest_counter ops)

-- whether an operation that a line means has a counter above this one
abbrev pub goes_above : ℕ → Line → Bool
goes_above counter line = nat_lt counter (greatest_counter (ops_of line))

-- the first such line of a change, as the lines of its text are counted: from 1 on, and the first begins the change
abbrev pub line_above : ℕ → Change → Option ℕ
line_above counter change = option_map (λ index. index + 2) (position (goes_above counter) change.lines)
