-- Registers that an instruction reads and of which nothing is known.
use Rattle.std.specs.Prelude.{◌≡◌, ℕ, ◌⊎◌, List, [], ◌∷◌}
use Rattle.abstract_state.specs.declared.state.AbsReg.TheVariants.{Unset}
use Rattle.abstract_state.specs.declared.state.AbsState.{AbsState}
use Rattle.abstract_state.specs.State.{register_at}

-- one of the registers may be unset
abbrev pub HasUnset : AbsState → List ℕ → Type 0
HasUnset a [] = ⊥
HasUnset a (r ∷ rest) = (register_at a.registers r ≡ Unset) ⊎ HasUnset a rest
