use Rattle.object_files.specs.Symbols.{AreSymbols}
use Rattle.object_files.proofs.symbol.check_symbols.Given as goal

abbrev pub invariant-loop-index : goal.invariant-loop-index
invariant-loop-index l = AreSymbols l.bytes l.index
