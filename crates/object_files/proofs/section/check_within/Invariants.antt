use Rattle.object_files.specs.Sections.{AreWithin}
use Rattle.object_files.proofs.section.check_within.Given as goal

abbrev pub invariant-loop-index : goal.invariant-loop-index
invariant-loop-index l = AreWithin l.bytes l.index
