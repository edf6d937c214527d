use Rattle.std.proofs.Common.{sym, arith}
use Rattle.session_lines.proofs.Unended.{before_feed}
use Rattle.session_lines.proofs.reader.part_len.Goals as goal

pub returns-in-Some-clause-one : goal.returns-in-Some-clause-one
returns-in-Some-clause-one c = before_feed c.args.bytes.now c.min-most.result c.in-Some.at (omega (arith, c.min-most.ensures)) (sym c.in-Some.ensures.index)
