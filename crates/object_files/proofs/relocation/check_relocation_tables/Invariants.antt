use Rattle.object_files.specs.Relocations.{AllRelocateWell}
use Rattle.object_files.proofs.relocation.check_relocation_tables.Given as goal

abbrev pub invariant-loop-table : goal.invariant-loop-table
invariant-loop-table l = AllRelocateWell l.bytes l.table
