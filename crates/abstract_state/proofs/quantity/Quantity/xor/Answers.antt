use Rattle.std.proofs.Common.{None, ℕ, bit_xor, subst}
use Rattle.std.proofs.lemmas.Nat.{xor_lt}
use Rattle.semantics.specs.Value.{bits_of}
use Rattle.abstract_state.specs.Quantity.{Within}
use Rattle.abstract_state.proofs.Widths.{cut_same, fits_word}
use Rattle.abstract_state.proofs.KnownBits.{made}
use Rattle.abstract_state.proofs.Exact.{one_made}
use Rattle.abstract_state.proofs.quantity.Quantity.xor.Goals as goal

pub returns-clause-contains : goal.returns-clause-contains
returns-clause-contains c = λ lengths x y a b fa fb.
    let small = xor_lt (bits_of c.args.width) x y fa fb in
    subst (λ (n : ℕ). Within c.finish.result lengths n) (cut_same c.args.width (bit_xor x y) small)
    (c.finish.ensures.contains lengths (bit_xor x y) (c.xor.ensures.contains x y a.bits b.bits) (c.full.ensures.contains _ (fits_word c.args.width _ small)) (c.none.ensures.contains lengths _))

pub returns-clause-constants : goal.returns-clause-constants
returns-clause-constants c = λ region wide m n a b.
    one_made region c.finish.result c.xor.result c.full.result c.none.result (bit_xor m n) None (c.finish.ensures.narrows wide) (c.finish.ensures.bits wide) c.finish.ensures.lies (c.none.ensures.none region)
    (made c.args.self.bits c.args.other.bits c.xor.result m n (λ x y. bit_xor x y) a.3 b.3 c.xor.ensures.contains c.xor.ensures.knows)
