use Rattle.std.proofs.Common.{subst, sym}
use Rattle.std.proofs.lemmas.Bool.{false≢true}
use Rattle.char_sequence.specs.Order.{Shows}
use Rattle.char_sequence.proofs.Steps.{stands, visible_of}
use Rattle.char_sequence.proofs.sequence.Sequence.visible.Goals as goal

pub returns-in-None : goal.returns-in-None
returns-in-None c =
    λ ops h.
    let held = subst (λ v. Shows v.elements ops) (sym c.self.view_is) h in
    (λ t. absurd (false≢true t), λ p. absurd (c.in-None.ensures (stands ops _ held.text c.args.id p.0)))

pub returns-in-Some : goal.returns-in-Some
returns-in-Some c =
    λ ops h.
    let held = subst (λ v. Shows v.elements ops) (sym c.self.view_is) h in
    visible_of ops _ c.args.id c.in-Some.element held.text c.in-Some.ensures
