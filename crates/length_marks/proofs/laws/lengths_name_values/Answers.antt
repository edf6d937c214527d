use Rattle.length_marks.proofs.Differences.{borne, start}
use Rattle.length_marks.proofs.laws.lengths_name_values.Goals as goal

pub returns-clause-bears : goal.returns-clause-bears
returns-clause-bears c = borne

pub returns-clause-start : goal.returns-clause-start
returns-clause-start c = start
