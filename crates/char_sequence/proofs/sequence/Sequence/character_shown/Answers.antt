use Rattle.std.proofs.Common.{ℕ, MatchOption, sym, subst, refl}
use Rattle.char_sequence.specs.Acceptance.{ShowsCharacter}
use Rattle.char_sequence.specs.Held.{Holds}
use Rattle.char_sequence.proofs.Reviving.{revival_shows, revival_shows_none, shown_stands}
use Rattle.char_sequence.proofs.sequence.Sequence.character_shown.Goals as goal

pub returns-in_err-target-in-Revive : goal.returns-in_err-target-in-Revive
returns-in_err-target-in-Revive c =
    λ ops h.
    let held = subst (λ v. Holds v ops) (sym c.self.view_is) h in
    subst (λ shown. MatchOption shown ((d : ℕ) → ShowsCharacter ops c.args.op.now d → ⊥) (ShowsCharacter ops c.args.op.now)) (sym c.from_residual.ensures)
    (revival_shows_none ops _ c.args.op.now c.in-Revive.id c.in-Revive.removal c.in-Revive.is held.removals c.in_err-target-in-Revive.ensures)

pub returns-in_err-element-in-Revive : goal.returns-in_err-element-in-Revive
returns-in_err-element-in-Revive c =
    λ ops h.
    let held = subst (λ v. Holds v ops) (sym c.self.view_is) h in
    absurd (c.in_err-element-in-Revive.ensures (shown_stands ops _ _ c.in-Revive.removal c.in_ok-target-in-Revive.target held.shows held.removals c.in_ok-target-in-Revive.ensures))

pub returns-in_ok-element-in-Revive : goal.returns-in_ok-element-in-Revive
returns-in_ok-element-in-Revive c =
    λ ops h.
    let held = subst (λ v. Holds v ops) (sym c.self.view_is) h in
    revival_shows ops _ _ c.args.op.now c.in-Revive.id c.in-Revive.removal c.in_ok-target-in-Revive.target c.in_ok-element-in-Revive.element c.in_ok-element-in-Revive.element.character
    c.in-Revive.is held.shows held.removals c.in_ok-target-in-Revive.ensures c.in_ok-element-in-Revive.ensures refl
