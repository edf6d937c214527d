use Rattle.std.proofs.Common.{string_bytes, arith}
use Rattle.known_lines.proofs.Lists.{beside_done}
use Rattle.known_lines.proofs.lines.push_lines_beside.Goals as goal

pub returns : goal.returns
returns c = beside_done string_bytes c.args.lines.now c.args.others.now c.loop-index.index _ _ (omega arith) c.loop-index.invariant
