-- The lines of a change, and the operations that they mean.
use Rattle.std.specs.Prelude.{ℕ, ◌+◌, Bool, true, List, [], ◌∷◌, ◌++◌, length}
use Rattle.change_ops.specs.Limits.{op_within, has_character}
use Rattle.change_ops.specs.Keys.{form_of, is_at_most}
use Rattle.change_ops.specs.Operations.{id_of, key_of}
use Rattle.change_ops.specs.Runs.{inserts_of, run_within, run_has_characters}
use Rattle.change_ops.specs.IdRuns.{removals_of, revivals_of, id_run_within}
use Rattle.change_ops.specs.declared.id.OpId.{OpId}
use Rattle.change_ops.specs.declared.attribute.Key.{Key}
use Rattle.change_ops.specs.declared.attribute.Key.TheVariants as key
use Rattle.change_ops.specs.declared.attribute.Attribute.{Attribute}
use Rattle.change_ops.specs.declared.operation.Op.{Op}
use Rattle.change_ops.specs.declared.operation.Op.TheVariants.{Insert, Remove, AddMark, RemoveMark, Revive}
use Rattle.change_ops.specs.declared.line.Form.{Form}
use Rattle.change_ops.specs.declared.line.Form.TheVariants.{Second, Third}
use Rattle.change_ops.specs.declared.line.Line.{Line}
use Rattle.change_ops.specs.declared.line.Line.TheVariants.{Operation, Run, Removals, Revivals}

-- the operations that a line means, and those of several lines, one line's behind the other's
abbrev pub ops_of : Line → List Op
ops_of (Operation op) = op ∷ []
ops_of (Run run) = inserts_of run
ops_of (Removals run) = removals_of run
ops_of (Revivals run) = revivals_of run

unfoldable pub ops_of_lines : List Line → List Op
ops_of_lines [] = []
ops_of_lines (line ∷ lines) = ops_of line ++ ops_of_lines lines

-- how many of a change's 256 operations a line is, and several are: a run of removals or of revivals is one
abbrev pub count_of : Line → ℕ
count_of (Operation op) = 1
count_of (Run run) = length run.characters
count_of (Removals run) = 1
count_of (Revivals run) = 1

unfoldable pub count_of_lines : List Line → ℕ
count_of_lines [] = 0
count_of_lines (line ∷ lines) = count_of line + count_of_lines lines

-- the id of the first operation
abbrev pub first_id : Line → OpId
first_id (Operation op) = id_of op
first_id (Run run) = run.id
first_id (Removals run) = run.id
first_id (Revivals run) = run.id

abbrev pub line_within : Line → Bool
line_within (Operation op) = op_within op
line_within (Run run) = run_within run
line_within (Removals run) = id_run_within run
line_within (Revivals run) = id_run_within run

abbrev pub line_has_characters : Line → Bool
line_has_characters (Operation op) = has_character op
line_has_characters (Run run) = run_has_characters run
line_has_characters (Removals run) = true
line_has_characters (Revivals run) = true

-- changes of the form know the key; each form knows comments
abbrev pub has_key : Form → Key → Bool
has_key form (key.Row row) = is_at_most (form_of row) form
has_key form (key.Comment number) = true

abbrev pub has_attribute : Form → Attribute → Bool
has_attribute form attribute = has_key form (key_of attribute)

-- they have the operation: revivals are of the third form
abbrev pub has_op : Form → Op → Bool
has_op form (Insert id parent character) = true
has_op form (Remove id target) = true
has_op form (AddMark id attribute start end) = has_attribute form attribute
has_op form (RemoveMark id key start end) = has_key form key
has_op form (Revive id removal) = is_at_most Third form

-- and the line: runs of characters are of the second form, those of removals and of revivals of the third
abbrev pub has_line : Form → Line → Bool
has_line form (Operation op) = has_op form op
has_line form (Run run) = is_at_most Second form
has_line form (Removals run) = is_at_most Third form
has_line form (Revivals run) = is_at_most Third form
