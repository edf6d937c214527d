use Rattle.std.proofs.Common.{subst, sym}
use Rattle.char_sequence.specs.Order.{Shows}
use Rattle.char_sequence.proofs.Steps.{present_iff}
use Rattle.char_sequence.proofs.sequence.Sequence.has.Goals as goal

pub returns : goal.returns
returns c =
    λ ops h.
    let held = subst (λ v. Shows v.elements ops) (sym c.self.view_is) h in
    present_iff ops _ c.args.id c.has.result held.text c.has.ensures.yes c.has.ensures.no
