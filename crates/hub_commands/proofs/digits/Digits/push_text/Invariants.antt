use Rattle.std.proofs.Common.{◌++◌, ℕ, List, length}
use Rattle.hub_commands.specs.Digits.{AreDigits}
use Rattle.hub_commands.specs.Hexadecimal.{without_blanks}
use Rattle.hub_commands.proofs.Runs.{AreTaken}
use Rattle.hub_commands.proofs.digits.Digits.push_text.Given as goal

abbrev pub invariant-loop-blank : goal.invariant-loop-blank
invariant-loop-blank l = (digits : List ℕ) → AreDigits digits l.initial.self → AreTaken (digits ++ without_blanks l.text) l.rest l.self

abbrev pub decreases-loop-blank : goal.decreases-loop-blank
decreases-loop-blank l = length l.rest
