use Rattle.std.proofs.Common.{◌^◌, ◌<◌, ◌≤◌, ℕ, refl, subst, arith}
use Rattle.semantics.specs.Value.{bits_of}
use Rattle.abstract_state.specs.Quantity.{Contains}
use Rattle.abstract_state.proofs.Options.{at_some, at_none}
use Rattle.abstract_state.proofs.Sides.{at_left, at_neither}
use Rattle.value_marks.proofs.Taught.{equal_self, is_sum}
use Rattle.value_marks.proofs.telling.told.Goals as goal

pub returns-in_default-clause-sound : goal.returns-in_default-clause-sound
returns-in_default-clause-sound c = λ lengths m n a b e.
    let hm : m ≤ c.args.x.range.high = a.range.high in
    let small : m < 2 ^ bits_of c.args.width = omega (arith, c.greatest-greatest.ensures, c.if-x-greatest.false) in
    absurd (at_none (λ q. Contains q lengths _) _ c.in_default.is (c.add.ensures.contains lengths m c.args.ahead a (c.constant.ensures.contains lengths) small c.requires))

pub returns-in_default-edge-clause-sound : goal.returns-in_default-edge-clause-sound
returns-in_default-edge-clause-sound c = λ lengths m n a b e.
    let hm : m ≤ c.args.x.range.high = a.range.high in
    let hn : n ≤ c.args.y.range.high = b.range.high in
    let small : m < 2 ^ bits_of c.args.width = omega (arith, c.greatest-greatest.ensures, c.if-x-greatest.false) in
    let less : n < 2 ^ bits_of c.args.width = omega (arith, c.greatest-greatest.ensures, c.if-y-greatest.false) in
    let sum = at_some (λ q. Contains q lengths _) _ _ c.in-Some.is (c.add.ensures.contains lengths m c.args.ahead a (c.constant.ensures.contains lengths) small c.requires) in
    let same = subst (λ (k : ℕ). Contains c.in-Some.sum lengths k) (is_sum c.args.width m n c.args.ahead small less c.requires e) sum in
    absurd (at_neither _ lengths n n c.in_default-edge.is (c.edge.ensures.contains lengths n n b same (equal_self _)))

pub returns-clause-sound : goal.returns-clause-sound
returns-clause-sound c = λ lengths m n a b e.
    let hm : m ≤ c.args.x.range.high = a.range.high in
    let hn : n ≤ c.args.y.range.high = b.range.high in
    let small : m < 2 ^ bits_of c.args.width = omega (arith, c.greatest-greatest.ensures, c.if-x-greatest.false) in
    let less : n < 2 ^ bits_of c.args.width = omega (arith, c.greatest-greatest.ensures, c.if-y-greatest.false) in
    let sum = at_some (λ q. Contains q lengths _) _ _ c.in-Some.is (c.add.ensures.contains lengths m c.args.ahead a (c.constant.ensures.contains lengths) small c.requires) in
    let same = subst (λ (k : ℕ). Contains c.in-Some.sum lengths k) (is_sum c.args.width m n c.args.ahead small less c.requires e) sum in
    (_, refl, at_left _ _ lengths n n c.in-Some-edge.is (c.edge.ensures.contains lengths n n b same (equal_self _)))
