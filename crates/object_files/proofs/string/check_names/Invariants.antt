use Rattle.object_files.specs.Strings.{AreNamed}
use Rattle.object_files.proofs.string.check_names.Given as goal

abbrev pub invariant-loop-index : goal.invariant-loop-index
invariant-loop-index l = AreNamed l.bytes l.index
