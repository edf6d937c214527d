use Rattle.std.proofs.Common.{◌≡◌, ◌∙◌, ℕ, List, subst, sym}
use Rattle.stored_history.specs.declared.error.OpenError.{OpenError}
use Rattle.stored_history.specs.Texts.{IsFaultOf, IsNoText, IsOnlyTextOf}
use Rattle.stored_history.proofs.Faults.{no_text_fault, refused_fault}
use Rattle.stored_history.proofs.reading.accept_text.Goals as goal

pub returns-in_err-change-clause-accepted : goal.returns-in_err-change-clause-accepted
returns-in_err-change-clause-accepted c =
    no_text_fault c.args.history.now.size c.from_residual.result _ c.args.history.now.changes c.args.text.now c.args.number c.in_err-change.field-0.0 c.from_residual.ensures.1
    (subst (λ (t : List ℕ). IsNoText t c.args.number c.in_err-change.field-0.0) c.as_str.ensures c.in_err-change.ensures)

pub accept_spelled-requires : goal.accept_spelled-requires
accept_spelled-requires c = record { spelled = c.in-Ok.ensures ∙ sym c.as_str.ensures ∙ c.in_ok-change.ensures.0.1 }

pub returns-in-Err-clause-accepted : goal.returns-in-Err-clause-accepted
returns-in-Err-clause-accepted c =
    let only : IsOnlyTextOf c.args.text.now c.in_ok-change.change = subst (λ (t : List ℕ). IsOnlyTextOf t c.in_ok-change.change) c.as_str.ensures c.in_ok-change.ensures in
    subst (λ (e : OpenError). IsFaultOf c.args.history.now.size c.args.history.now.changes c.args.text.now c.args.number e) (sym c.refused_text.ensures)
    (refused_fault c.args.history.now.size c.args.history.now.changes c.args.text.now c.in_ok-change.change c.args.number c.in-Err.error only c.in-Err.ensures.1)
