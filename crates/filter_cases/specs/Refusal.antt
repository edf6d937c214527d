-- The refusal of a line that is no case.
use Rattle.std.specs.Prelude.{ℕ, List, ◌++◌, codes}
use Rattle.std.specs.Fmt.{decimal}

abbrev pub bad_case : ℕ → List ℕ
bad_case line = codes "76 BadCase line " ++ decimal line
