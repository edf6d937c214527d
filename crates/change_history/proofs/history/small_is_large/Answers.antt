use Rattle.change_ops.specs.declared.size.Size.TheVariants.{Small}
use Rattle.change_history.proofs.Sizes.{accepted_large, all_accepted_large}
use Rattle.change_history.proofs.history.small_is_large.Goals as goal

pub returns-clause-accepted : goal.returns-clause-accepted
returns-clause-accepted c = λ changes change a. accepted_large changes change a

pub returns-clause-all : goal.returns-clause-all
returns-clause-all c = λ changes all. all_accepted_large Small changes all
