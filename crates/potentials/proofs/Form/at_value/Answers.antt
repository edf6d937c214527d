use Rattle.std.proofs.Common.{pos, ◌-ℤ◌, ◌*ℤ◌, FitsSigned, w32, w64, ◌∙◌, ap, rules}
use Rattle.std.proofs.lemmas.Int.{to_z-of_z}
use Rattle.potentials.proofs.Fields.{forms, difference}
use Rattle.potentials.proofs.Form.at_value.Goals as goal

pub returns-clause-rule : goal.returns-clause-rule
returns-clause-rule c =
    let per_byte : FitsSigned w64 c.args.self.per_byte = search rules in
    let per_link_byte : FitsSigned w64 c.args.self.per_link_byte = search rules in
    forms _ _ _ _ _ _
    (difference c.args.self.constant c.times.result c.requires c.times.ensures.small
    ∙ ap (λ z. c.args.self.constant -ℤ z)
    (c.times.ensures.value ∙ ap (λ z. z *ℤ pos c.args.value) (to_z-of_z w32 c.args.weight c.ranges.weight)))
    (to_z-of_z w64 c.args.self.per_byte per_byte) (to_z-of_z w64 c.args.self.per_link_byte per_link_byte)
