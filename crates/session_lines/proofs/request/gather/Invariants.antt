use Rattle.std.specs.String.{string_bytes}
use Rattle.session_lines.proofs.Gatherings.{GatheredSoFar}
use Rattle.session_lines.proofs.request.gather.Given as goal

abbrev pub invariant-loop : goal.invariant-loop
invariant-loop g l = GatheredSoFar l.settled l.counter l.initial.reader.left (string_bytes l.initial.text) l.reader.left (string_bytes l.text)
