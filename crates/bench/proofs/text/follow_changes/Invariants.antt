use Rattle.std.proofs.Common.{ℕ}
use denote.Text.{Utf8}
use denote.Shadow.{shadow}
use Rattle.change_history.specs.Accepted.{operations_of}
use Rattle.span_flatten.specs.Version.{IsVersion}
use Rattle.bench.proofs.text.follow_changes.Given as goal

abbrev pub invariant-loop-change : goal.invariant-loop-change
invariant-loop-change l = shadow (Utf8 l.rest) × ((number : ℕ) × IsVersion (operations_of l.history.changes) number l.version)
