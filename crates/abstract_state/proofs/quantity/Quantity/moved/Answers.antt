use Rattle.abstract_state.proofs.quantity.Quantity.moved.Goals as goal

pub returns-clause-contains : goal.returns-clause-contains
returns-clause-contains c = λ lengths x a. c.finish.ensures.contains lengths x a.bits a.range a.tails
