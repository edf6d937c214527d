use Rattle.char_sequence.proofs.PlaceTables.{AreLaid}
use Rattle.char_sequence.proofs.place_table.starts_by_name.Given as goal

abbrev pub invariant-loop-position : goal.invariant-loop-position
invariant-loop-position l = AreLaid l.chunks l.names l.starts.items l.position l.start
