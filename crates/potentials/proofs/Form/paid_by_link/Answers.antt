use Rattle.std.proofs.Common.{◌≡◌, pos, ◌+ℤ◌, ◌-ℤ◌, ◌*ℤ◌, FitsSigned, to_z, of_z, w32, w64, ◌∙◌, ap, sym, subst, rules, arith}
use Rattle.std.proofs.lemmas.Int.{to_z-of_z, ints}
use Rattle.potentials.proofs.Fields.{forms, total, weight_left}
use Rattle.potentials.proofs.Form.paid_by_link.Goals as goal

pub returns-clause-rule : goal.returns-clause-rule
returns-clause-rule c =
    let paid : FitsSigned w64 c.args.self.per_link_byte = search rules in
    let kept : FitsSigned w64 c.args.self.per_byte = search rules in
    let tail : c.from.result ≡ c.args.tail = omega (arith, c.from.ensures) in
    let weight : c.from-2.result ≡ c.args.weight = omega (arith, ints, c.from-2.ensures, c.ranges.weight) in
    let value : c.times.result ≡ c.args.weight *ℤ pos c.args.tail
    = c.times.ensures.value
    ∙ (ap (λ z. z *ℤ pos c.from.result) (to_z-of_z w32 c.args.weight c.ranges.weight)
    ∙ ap (λ n. c.args.weight *ℤ pos n) tail) in
    forms _ _ _ _ _ _
    (total c.args.self.constant c.times.result c.requires.room c.times.ensures.small
    ∙ ap (λ z. c.args.self.constant +ℤ z) value)
    (to_z-of_z w64 c.args.self.per_byte kept)
    (subst (λ z. to_z w64 (of_z w64 (to_z w64 (of_z w64 c.args.self.per_link_byte) -ℤ to_z w64 (of_z w64 z))) ≡ c.args.self.per_link_byte -ℤ c.args.weight)
    (sym weight) (weight_left c.args.self.per_link_byte c.args.weight paid c.requires.natural c.requires.enough))
