use Rattle.change_history.specs.declared.refusal.SubmitError.TheVariants.{OutOfMemory}
use Rattle.change_history.proofs.Chronicle.{refused_draft}
use Rattle.change_history.proofs.history.History.draft.Goals as goal

pub returns-in_err-admit-clause-drafted : goal.returns-in_err-admit-clause-drafted
returns-in_err-admit-clause-drafted c = refused_draft c.args.self.now.size c.from_residual.result c.args.self.now.changes c.args.change c.in_err-admit.field-0.0 c.from_residual.ensures.1 c.in_err-admit.ensures

pub returns-in_err-text-clause-drafted : goal.returns-in_err-text-clause-drafted
returns-in_err-text-clause-drafted c = refused_draft c.args.self.now.size c.from_residual-in_err-text.result c.args.self.now.changes c.args.change OutOfMemory c.from_residual-in_err-text.ensures.1 c.in_ok-admit.ensures.room

pub returns-in_err-draft-clause-drafted : goal.returns-in_err-draft-clause-drafted
returns-in_err-draft-clause-drafted c = refused_draft c.args.self.now.size c.from_residual-in_err-draft.result c.args.self.now.changes c.args.change OutOfMemory c.from_residual-in_err-draft.ensures.1 c.in_ok-admit.ensures.room
