use Rattle.length_marks.proofs.Differences.{shares_name, sums_turn, counts_down}
use Rattle.length_marks.proofs.laws.differences_are_kept.Goals as goal

pub returns-clause-ends : goal.returns-clause-ends
returns-clause-ends c = shares_name

pub returns-clause-sums : goal.returns-clause-sums
returns-clause-sums c = sums_turn

pub returns-clause-counters : goal.returns-clause-counters
returns-clause-counters c = counts_down
