use Rattle.std.proofs.Common.{refl}
use Rattle.known_bits.proofs.Members.{any_contains}
use Rattle.known_bits.proofs.Bits.unknown.Goals as goal

pub returns-clause-contains : goal.returns-clause-contains
returns-clause-contains c = any_contains _ refl refl
