use Rattle.std.proofs.Common.{rules, ℕ, List, [], ◌≡◌, ap, refl}
use Rattle.change_ops.specs.Changes.{Change}
use Rattle.stored_history.specs.Texts.{IsTextOf}
use Rattle.stored_history.proofs.Copies.{spells_all}
use Rattle.stored_history.proofs.text.change_of.Goals as goal

pub returns-else-is_empty : goal.returns-else-is_empty
returns-else-is_empty c =
    let none : (other : Change) → IsTextOf c.args.text.now other → ⊥ = λ other spelled.
    let rest : c.in-Ok.rest.now ≡ [] =
    ap (λ (p : Change × List ℕ). p.1) (c.in-Ok.ensures.complete other [] (spells_all c.args.text.now other spelled))
    in search rules in
    (refl, none)
