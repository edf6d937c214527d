use Rattle.char_sequence.proofs.PlaceTables.{table_made}
use Rattle.char_sequence.proofs.place_table.PlaceTable.new.Goals as goal

pub invariant_of-result : goal.invariant_of-result
invariant_of-result c = table_made _ c.args.names.now _ _ _ c.requires.kept c.in_ok-starts.ensures
