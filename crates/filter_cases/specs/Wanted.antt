-- The verdicts that a case wants: one number, or any but 0.
use Rattle.std.specs.Prelude.{ℕ, ◌==◌, not, Bool, if◌then◌else◌, List, Option, Some, codes}
use Rattle.std.specs.Fmt.{decimal}
use Rattle.std.specs.Option.{option_map}
use Rattle.std.specs.Str.{bytes_eq}
use Rattle.change_ops.specs.Words.{number_in, small}
use Rattle.filter_cases.specs.declared.wanted.Wanted.{Wanted}
use Rattle.filter_cases.specs.declared.wanted.Wanted.TheVariants.{Verdict, Hit}

-- whether a verdict is wanted
abbrev pub is_met : Wanted → ℕ → Bool
is_met (Verdict wanted) verdict = verdict == wanted
is_met Hit verdict = not (verdict == 0)

-- `hit`, or a number of 64 bits in decimal, without leading zeros
abbrev pub wanted_at : List ℕ → Option Wanted
wanted_at word = if bytes_eq word (codes "hit") then Some Hit else option_map Verdict (small (number_in 10 word))

abbrev pub wanted_text : Wanted → List ℕ
wanted_text (Verdict verdict) = decimal verdict
wanted_text Hit = codes "hit"
