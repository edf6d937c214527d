use Rattle.std.proofs.Common.{None, ℕ, ◌<◌, ◌^◌, bit_and, subst, arith}
use Rattle.std.proofs.lemmas.Nat.{and_le_l, and_le_r}
use Rattle.semantics.specs.Value.{bits_of}
use Rattle.abstract_state.specs.Quantity.{Within}
use Rattle.abstract_state.proofs.Widths.{cut_same}
use Rattle.abstract_state.proofs.KnownBits.{made}
use Rattle.abstract_state.proofs.Exact.{one_made}
use Rattle.abstract_state.proofs.quantity.Quantity.and.Goals as goal

pub returns-clause-contains : goal.returns-clause-contains
returns-clause-contains c = λ lengths x y a b fa fb.
    let small : bit_and x y < 2 ^ bits_of c.args.width = omega (arith, and_le_l x y) in
    subst (λ (n : ℕ). Within c.finish.result lengths n) (cut_same c.args.width (bit_and x y) small)
    (c.finish.ensures.contains lengths (bit_and x y) (c.and.ensures.contains x y a.bits b.bits) (c.and-2.ensures.contains x y a.range b.range)
    (c.greater.ensures.contains lengths x y (bit_and x y) a.tails b.tails (and_le_l x y) (and_le_r x y)))

pub returns-clause-constants : goal.returns-clause-constants
returns-clause-constants c = λ region wide m n a b.
    one_made region c.finish.result c.and.result c.and-2.result c.greater.result (bit_and m n) None (c.finish.ensures.narrows wide) (c.finish.ensures.bits wide) c.finish.ensures.lies (c.greater.ensures.none region a.2 b.2)
    (made c.args.self.bits c.args.other.bits c.and.result m n (λ x y. bit_and x y) a.3 b.3 c.and.ensures.contains c.and.ensures.knows)
