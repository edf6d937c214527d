use Rattle.object_files.proofs.Ends.{name-ends}
use Rattle.object_files.proofs.string.name_at.Goals as goal

pub returns-in-Some-clause-ends : goal.returns-in-Some-clause-ends
returns-in-Some-clause-ends c = name-ends c.args.strings.now c.args.offset c.in-Some.end c.in-Some.ensures.index
