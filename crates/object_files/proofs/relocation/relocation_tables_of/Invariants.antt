use Rattle.object_files.specs.Relocations.{ApplyOnce, IsIndex}
use Rattle.object_files.proofs.relocation.relocation_tables_of.Given as goal

abbrev pub invariant-loop-table : goal.invariant-loop-table
invariant-loop-table l = record {
  index : IsIndex l.bytes l.tables.items l.table;
  once : ApplyOnce l.bytes l.table;
}
