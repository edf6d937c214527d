-- Registers of a machine that an abstract state contains.
use Rattle.std.proofs.Common.{◌≡◌, ℕ, ◌<◌, Option, Some, None, Ok, List, length, get_or, replicate, sym, ◌∙◌, ap, subst, arith}
use Rattle.std.proofs.lemmas.Option.{slice_get-get_or, same_Some}
use Rattle.std.proofs.lemmas.Grind.{common_steps}
use Rattle.abstract_state.specs.declared.slot.Slot.{Slot}
use Rattle.semantics.specs.State.{State, set_value, register_of}
use Rattle.abstract_state.specs.declared.state.AbsReg.{AbsReg}
use Rattle.abstract_state.specs.declared.state.AbsReg.TheVariants.{Set}
use Rattle.abstract_state.specs.declared.state.AbsState.{AbsState}
use Rattle.abstract_state.specs.declared.known.Known.{Known}
use Rattle.abstract_state.specs.Lent.{Lengths}
use Rattle.abstract_state.specs.Known.{ContainsKnown}
use Rattle.abstract_state.specs.State.{Contains, ContainsRegister, register_at, WithinState}

pub register_is : (s : State) (r n : ℕ) → r < length s.registers → get_or s.registers r None ≡ Some n → register_of s r ≡ Ok n
register_is s r n h e = ap set_value (slice_get-get_or s.registers r None h ∙ ap (λ (o : Option ℕ). Some o) e)

-- a register of which something is known is set to a number of it
pub holds : (a : AbsState) (lengths : Lengths) (s : State) (r : ℕ) (k : Known) → r < 11 → register_at a.registers r ≡ Set k → Contains a lengths s → (n : ℕ) × (register_of s r ≡ Ok n) × ContainsKnown k lengths n
holds a lengths s r k h is c =
    let held = subst (λ (v : AbsReg). ContainsRegister v lengths (get_or s.registers r None)) is (c.registers r h) in
    let size = c.eleven in
    (held.0, register_is s r held.0 (omega arith) held.1, held.2)

pub state_at : (o : Option AbsState) (a : AbsState) (lengths : Lengths) (s : State) → o ≡ Some a → WithinState o lengths s → Contains a lengths s
state_at o a lengths s is (b, e, c) = let same : b ≡ a = cc in subst (λ (v : AbsState). Contains v lengths s) same c

pub state_none : (o : Option AbsState) (lengths : Lengths) (s : State) → o ≡ None → WithinState o lengths s → ⊥
state_none o lengths s is (b, e, c) = cc

pub any_default : {X : Type 0} (xs : List X) (i : ℕ) (d e : X) → i < length xs → get_or xs i d ≡ get_or xs i e
any_default xs i d e h = same_Some _ _ (sym (slice_get-get_or xs i d h) ∙ slice_get-get_or xs i e h)

pub same_everywhere : (n i : ℕ) (slot d : Slot) (P : Slot → Type 0) → i < n → P slot → P (get_or (replicate n slot) i d)
same_everywhere n i slot d P h p = let is : slot ≡ get_or (replicate n slot) i d = grind (arith, common_steps) in subst P is p
