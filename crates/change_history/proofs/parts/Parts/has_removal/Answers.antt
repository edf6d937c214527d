use Rattle.std.proofs.Common.{sym, ◌∙◌}
use Rattle.std.proofs.lemmas.Bool.{false≢true}
use Rattle.change_history.proofs.Counting.{removal_right, removal_either}
use Rattle.change_history.proofs.Edits.{removal_by_edits}
use Rattle.change_history.proofs.parts.Parts.has_removal.Goals as goal

pub returns-then-has_removal : goal.returns-then-has_removal
returns-then-has_removal c = λ ops own node k t. (λ there. removal_right ops own c.args.removal ((c.has_removal.ensures ops own node t).0 there), λ there. c.if-has_removal.true)

pub returns-else-has_removal : goal.returns-else-has_removal
returns-else-has_removal c = λ ops own node k t.
    removal_either ops own c.args.removal c.has_removal-else-has_removal.result (λ there. false≢true (sym c.if-has_removal.false ∙ (c.has_removal.ensures ops own node t).1 there)) (removal_by_edits ops c.args.removal c.has_removal-else-has_removal.result k.held c.has_removal-else-has_removal.ensures)
