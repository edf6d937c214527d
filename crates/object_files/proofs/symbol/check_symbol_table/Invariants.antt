use Rattle.std.proofs.Common.{◌≡◌, MatchOption}
use Rattle.object_files.specs.Symbols.{last_symbol_table, HasNone, IsOnly}
use Rattle.object_files.proofs.symbol.check_symbol_table.Given as goal

abbrev pub invariant-loop-index : goal.invariant-loop-index
invariant-loop-index l = record {
  found : l.found ≡ last_symbol_table l.bytes l.index;
  only : MatchOption l.found (HasNone l.bytes l.index) (IsOnly l.bytes l.index);
}
