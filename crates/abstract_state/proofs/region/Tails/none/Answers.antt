use Rattle.std.proofs.Common.{◌≡◌, None, refl}
use Rattle.abstract_state.specs.declared.region.Region.{Region}
use Rattle.abstract_state.specs.Lent.{tail_of}
use Rattle.abstract_state.proofs.Regions.{each}
use Rattle.abstract_state.proofs.region.Tails.none.Goals as goal

pub returns-clause-none : goal.returns-clause-none
returns-clause-none c = each (λ (r : Region). tail_of (record { text = None; link = None }) r ≡ None) refl refl
