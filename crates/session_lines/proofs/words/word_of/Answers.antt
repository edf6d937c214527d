use Rattle.std.proofs.Common.{sym}
use Rattle.session_lines.proofs.Splits.{split_there}
use Rattle.session_lines.proofs.words.word_of.Goals as goal

pub returns-in-Some : goal.returns-in-Some
returns-in-Some c = split_there c.args.line.now c.in-Some.end (sym c.in-Some.ensures.index)
