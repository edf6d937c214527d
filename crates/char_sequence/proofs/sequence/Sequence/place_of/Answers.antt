use Rattle.std.proofs.Common.{ap}
use Rattle.char_sequence.proofs.Steps.{placed}
use Rattle.char_sequence.proofs.sequence.Sequence.place_of.Goals as goal

pub returns-clause-present : goal.returns-clause-present
returns-clause-present c =
    λ ops h.
    let same = ap (λ v. v.elements) c.self.view_is in
    rw (← same) (placed ops _ c.args.id c.place_of.result (rw same h.text) c.place_of.ensures)
