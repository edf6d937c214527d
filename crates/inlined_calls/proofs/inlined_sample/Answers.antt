use Rattle.inlined_calls.proofs.Samples.{sample_is_inlined, unmoved_is_not}
use Rattle.inlined_calls.proofs.inlined_sample.Goals as goal

pub returns-clause-inlined : goal.returns-clause-inlined
returns-clause-inlined c = sample_is_inlined

pub returns-clause-unmoved : goal.returns-clause-unmoved
returns-clause-unmoved c = unmoved_is_not
