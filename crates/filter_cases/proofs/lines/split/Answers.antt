use Rattle.std.proofs.Common.{sym}
use Rattle.filter_cases.proofs.Splits.{split_there, shorter_there}
use Rattle.filter_cases.proofs.lines.split.Goals as goal

pub returns-in-Some : goal.returns-in-Some
returns-in-Some c = record {
  parts = split_there c.args.mark c.args.bytes.now c.in-Some.end (sym c.in-Some.ensures.index);
  shorter = shorter_there c.args.bytes.now c.in-Some.end c.in-Some.ensures.bound;
}
