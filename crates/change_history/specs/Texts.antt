-- The change that a text is of.
use Rattle.std.specs.Prelude.{ℕ, List, [], Result, Ok, Err}
use Rattle.change_ops.specs.Changes.{Change, change_at}
use Rattle.change_ops.specs.declared.line.Form.TheVariants.{First}
use Rattle.change_ops.specs.declared.refusal.ChangeError.{ChangeError}

-- the change that was read; where none was, one of no lines stands for it
abbrev pub read_change : Result (Change × List ℕ) ChangeError → Change
read_change (Ok read) = read.0
read_change (Err error) = record { form = First; node = 0; lines = [] }

-- the change at the front of a text
abbrev pub change_of : List ℕ → Change
change_of text = read_change (change_at text)
