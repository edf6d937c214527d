use Rattle.object_files.specs.Sections.{AreApart}
use Rattle.object_files.proofs.section.check_apart.Given as goal

abbrev pub invariant-loop-index : goal.invariant-loop-index
invariant-loop-index l = AreApart l.bytes l.index
