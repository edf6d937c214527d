use Rattle.std.proofs.Common.{sym, subst}
use Rattle.char_sequence.specs.Held.{Holds}
use Rattle.char_sequence.proofs.Reviving.{removal_iff}
use Rattle.char_sequence.proofs.sequence.Sequence.has_removal.Goals as goal

pub returns : goal.returns
returns c =
    λ ops h.
    let held = subst (λ v. Holds v ops) (sym c.self.view_is) h in
    removal_iff ops _ c.args.removal c.target_of.result c.is_some.result held.removals c.target_of.ensures.cases c.is_some.ensures
