use Rattle.object_files.specs.Relocations.{NameSymbols}
use Rattle.object_files.proofs.relocation.check_relocations.Given as goal

abbrev pub invariant-loop-index : goal.invariant-loop-index
invariant-loop-index l = NameSymbols l.bytes l.table l.index
