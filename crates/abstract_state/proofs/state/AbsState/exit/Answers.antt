use Rattle.std.proofs.Common.{ℕ, ◌∙◌, sym, ap, subst, ◌≡◌, ◌↔◌, [], ◌∷◌, rules}
use Rattle.semantics.specs.State.{register_of}
use Rattle.abstract_state.specs.State.{lengths_of}
use Rattle.abstract_state.proofs.Steps.{returns_r0}
use Rattle.abstract_state.specs.declared.refusal.Refusal.TheVariants.{UnsetRegister}
use Rattle.abstract_state.specs.Unset.{HasUnset}
use Rattle.abstract_state.proofs.Unsets.{passed, all_unset, none_unset}
use Rattle.abstract_state.specs.Addresses.{content_of}
use Rattle.abstract_state.specs.Situation.{registers_of, read, situation_of}
use Rattle.abstract_state.proofs.Stepping.{out_is, given, denied, exit_unread, exit_is, returned_number, returned_address}
use Rattle.abstract_state.proofs.state.AbsState.exit.Goals as goal

pub returns-then-is_number-clause-sound : goal.returns-then-is_number-clause-sound
returns-then-is_number-clause-sound c = λ span s a.
    let held = c.in_ok-known.ensures.sound (lengths_of span) s a in
    (held.0, returns_r0 span s held.0 (ap (register_of s) (sym c.r0.ensures) ∙ held.1))

pub returns-in_err-known-clause-unset : goal.returns-in_err-known-clause-unset
returns-in_err-known-clause-unset c =
    passed c.from_residual.result c.in_err-known.field-0.0 (λ e. (e ≡ UnsetRegister) ↔ HasUnset c.args.self.now (0 ∷ [])) c.from_residual.ensures.1
    (all_unset c.args.self.now (0 ∷ []) _ (subst (λ (r : ℕ). (c.in_err-known.field-0.0 ≡ UnsetRegister) × HasUnset c.args.self.now (r ∷ [])) c.r0.ensures c.in_err-known.ensures.unset))

pub returns-else-is_number-clause-unset : goal.returns-else-is_number-clause-unset
returns-else-is_number-clause-unset c = none_unset c.args.self.now (0 ∷ []) _ (λ is. cc) (subst (λ (r : ℕ). HasUnset c.args.self.now (r ∷ []) → ⊥) c.r0.ensures c.in_ok-known.ensures.set)

pub returns-in_err-known-clause-rule : goal.returns-in_err-known-clause-rule
returns-in_err-known-clause-rule c =
    let at = c.read.ensures.rule ∙ ap (λ (r : ℕ). read (registers_of c.args.self.now.registers r)) c.r0.ensures in
    out_is _ _ c.from_residual.ensures.1 ∙ sym (exit_unread (situation_of c.args.self.now) c.in_err-known.field-0.0 (denied content_of _ _ _ at c.in_err-known.was))

pub returns-then-is_number-clause-rule : goal.returns-then-is_number-clause-rule
returns-then-is_number-clause-rule c =
    let at = c.read.ensures.rule ∙ ap (λ (r : ℕ). read (registers_of c.args.self.now.registers r)) c.r0.ensures in
    sym (exit_is (situation_of c.args.self.now) (content_of c.in_ok-known.known) (given content_of _ _ _ at c.in_ok-known.was) ∙ returned_number c.in_ok-known.known (search rules))

pub returns-else-is_number-clause-rule : goal.returns-else-is_number-clause-rule
returns-else-is_number-clause-rule c =
    let at = c.read.ensures.rule ∙ ap (λ (r : ℕ). read (registers_of c.args.self.now.registers r)) c.r0.ensures in
    sym (exit_is (situation_of c.args.self.now) (content_of c.in_ok-known.known) (given content_of _ _ _ at c.in_ok-known.was) ∙ returned_address c.in_ok-known.known (search rules))
