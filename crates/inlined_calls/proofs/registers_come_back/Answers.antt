use Rattle.inlined_calls.proofs.Kept.{keeps, leaves, brings}
use Rattle.inlined_calls.proofs.registers_come_back.Goals as goal

pub returns-clause-kept : goal.returns-clause-kept
returns-clause-kept c = keeps

pub returns-clause-stays : goal.returns-clause-stays
returns-clause-stays c = leaves

pub returns-clause-back : goal.returns-clause-back
returns-clause-back c = brings
