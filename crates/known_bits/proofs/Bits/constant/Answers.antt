use Rattle.std.proofs.Common.{refl, rules}
use Rattle.known_bits.proofs.Members.{fit, has_value, constant_is}
use Rattle.known_bits.proofs.Bits.constant.Goals as goal

pub returns-clause-contains : goal.returns-clause-contains
returns-clause-contains c = λ x. (λ inside. constant_is _ x refl inside, λ e. rw e (has_value _ (fit _ (search rules) (search rules))))
