use Rattle.std.proofs.Common.{string_bytes}
use Rattle.session_subscribers.specs.Items.{Takes}
use Rattle.session_subscribers.proofs.pulling.give_pending.Given as goal

abbrev pub invariant-loop-given : goal.invariant-loop-given
invariant-loop-given g l = Takes l.given l.initial.reader l.reader (string_bytes l.initial.out) (string_bytes l.out)
