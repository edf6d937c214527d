use Rattle.std.proofs.Common.{◌≡◌, ◌+◌, length, drop}
use Rattle.char_sequence.specs.Visible.{all_bytes}
use Rattle.change_history.proofs.trial.bytes_of_all.Given as goal

abbrev pub invariant-loop-element : goal.invariant-loop-element
invariant-loop-element l = l.count + all_bytes (drop (length l.yielded) l.sequence.elements) ≡ all_bytes l.sequence.elements
