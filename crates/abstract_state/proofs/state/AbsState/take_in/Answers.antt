use Rattle.std.proofs.Common.{◌≡◌, min}
use Rattle.abstract_state.specs.declared.region.Region.{Region}
use Rattle.abstract_state.specs.Lent.{bound_of}
use Rattle.abstract_state.proofs.Regions.{each}
use Rattle.abstract_state.proofs.state.AbsState.take_in.Goals as goal

pub returns-clause-bounds : goal.returns-clause-bounds
returns-clause-bounds c = each
    (λ (r : Region). bound_of c.join-self.result r ≡ min (bound_of c.args.self.now.bounds r) (bound_of c.args.other.now.bounds r))
    c.join-self.ensures.text c.join-self.ensures.link
