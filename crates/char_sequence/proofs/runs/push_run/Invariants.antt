use Rattle.std.proofs.Common.{◌-◌}
use Rattle.char_sequence.specs.Named.{name_of, IsPeerPlace}
use Rattle.char_sequence.specs.RunElements.{AreEntered}
use Rattle.char_sequence.proofs.runs.push_run.Given as goal

abbrev pub invariant-loop-by : goal.invariant-loop-by
invariant-loop-by l = AreEntered (name_of l.initial.index) (name_of l.index) l.id l.by l.name × IsPeerPlace l.index l.id.node (l.count - l.by) l.place
