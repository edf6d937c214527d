-- Neighboring changes of one peer as one change.
use Rattle.std.specs.Prelude.{◌+◌, ◌==◌, nat_le, ◌&&◌, if◌then◌else◌, Bool, List, [], ◌∷◌, ◌++◌, length}
use Rattle.change_ops.specs.Changes.{Change, operations}
use Rattle.change_ops.specs.Lines.{count_of_lines}
use Rattle.change_ops.specs.declared.line.Form.{Form}
use Rattle.change_ops.specs.declared.line.Form.TheVariants.{First, Second, Third}

-- whether two can be one: they are of one peer, and are and mean together no more operations than one may
abbrev pub can_join : Change → Change → Bool
can_join change next =
    change.node == next.node
    && (nat_le (count_of_lines change.lines + count_of_lines next.lines) 256
    && nat_le (length (operations change) + length (operations next)) 262144)

-- the form that has the lines of both
abbrev pub wider : Form → Form → Form
wider First form = form
wider Second First = Second
wider Second Second = Second
wider Second Third = Third
wider Third form = Third

-- the change of the lines of both
abbrev pub both_of : Change → Change → Change
both_of change next =
    record { form = wider change.form next.form; node = change.node; lines = change.lines ++ next.lines }

-- a change and those behind it, each joined with what stands before it where it can be
unfoldable pub joined_with : Change → List Change → List Change
joined_with change [] = change ∷ []
joined_with change (next ∷ others) =
    if can_join change next then joined_with (both_of change next) others else change ∷ joined_with next others

unfoldable pub joined : List Change → List Change
joined [] = []
joined (change ∷ others) = joined_with change others
