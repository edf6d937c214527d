use Rattle.order_samples.proofs.Sampled.{accepted_by_one, accepted_by_two, refused_by_three}
use Rattle.order_samples.proofs.context_three_accepts_not_all.Goals as goal

pub returns-clause-one : goal.returns-clause-one
returns-clause-one c = accepted_by_one

pub returns-clause-two : goal.returns-clause-two
returns-clause-two c = accepted_by_two

pub returns-clause-three : goal.returns-clause-three
returns-clause-three c = refused_by_three
