use Rattle.std.proofs.Common.{refl, arith}
use Rattle.hex_table.specs.declared.TheConstants.{VALUES}
use Rattle.hex_table.proofs.Tables.{agree_below, entry_at}
use Rattle.hex_table.proofs.value.Goals as goal

pub returns : goal.returns
unfolding agree_below
returns c = entry_at VALUES 256 refl c.args.byte (omega arith)
