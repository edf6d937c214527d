use Rattle.std.proofs.Common.{arith}
use Rattle.session_lines.proofs.Lining.{too_long}
use Rattle.session_lines.proofs.reader.arrival_of.Goals as goal

pub returns-then-len-gt-LINE_LIMIT : goal.returns-then-len-gt-LINE_LIMIT
returns-then-len-gt-LINE_LIMIT c = too_long c.args.part c.args.line.now.items c.requires (omega (arith, c.args.line.now.ok.0, c.len.ensures, c.if-len-gt-LINE_LIMIT.true))
