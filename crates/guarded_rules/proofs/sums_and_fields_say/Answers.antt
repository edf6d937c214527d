use Rattle.guarded_rules.proofs.Sums.{added_says}
use Rattle.guarded_rules.proofs.Values.{fields_on}
use Rattle.guarded_rules.proofs.sums_and_fields_say.Goals as goal

pub returns-clause-sums : goal.returns-clause-sums
returns-clause-sums c = added_says

pub returns-clause-fields : goal.returns-clause-fields
returns-clause-fields c = fields_on
