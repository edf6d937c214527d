use Rattle.block_layout.proofs.Same.{means_same}
use Rattle.block_layout.proofs.check.means_same.Goals as goal

pub returns-clause-same : goal.returns-clause-same
returns-clause-same c = λ is. means_same _ _ _ _ (c.keeps_all.ensures is)

pub returns-clause-forward : goal.returns-clause-forward
returns-clause-forward c = λ is. (c.keeps_all.ensures is).forward
