-- Which refusals are for a register that is read and may be unset.
use Rattle.std.proofs.Common.{◌≡◌, ◌≢◌, ℕ, ◌↔◌, ⊎_elim, inl, inr, List, [], ◌∷◌, Result, Ok, Err, refl, sym, subst}
use Rattle.std.specs.Result.{IfErr, IsErrAnd}
use Rattle.bpf_words.specs.declared.instruction.Arithmetic.{Arithmetic}
use Rattle.bpf_words.specs.declared.instruction.Arithmetic.TheVariants as is
use Rattle.bpf_words.specs.Flow.{read_first}
use Rattle.abstract_state.specs.declared.refusal.Refusal.{Refusal}
use Rattle.abstract_state.specs.declared.refusal.Refusal.TheVariants.{UnsetRegister}
use Rattle.abstract_state.specs.declared.state.AbsState.{AbsState}
use Rattle.abstract_state.specs.Unset.{HasUnset}

-- a refusal that is passed on
pub passed : {T : Type 0} (r : Result T Refusal) (e : Refusal) (P : Refusal → Type 0) → IsErrAnd r (λ y. y ≡ e) → P e → IfErr r P
passed (Ok t) e P is p = tt
passed (Err y) e P is p = subst P (sym is) p

pub first_unset : (a : AbsState) (r : ℕ) (rest : List ℕ) (e : Refusal) → (e ≡ UnsetRegister) × HasUnset a (r ∷ []) → (e ≡ UnsetRegister) ↔ HasUnset a (r ∷ rest)
first_unset a r rest e given = (λ _. ⊎_elim (λ here. inl here) (λ none. absurd none) given.1, λ _. given.0)

pub rest_unset : (a : AbsState) (r : ℕ) (rest : List ℕ) (e : Refusal) → (e ≡ UnsetRegister) × HasUnset a rest → (e ≡ UnsetRegister) ↔ HasUnset a (r ∷ rest)
rest_unset a r rest e given = (λ _. inr given.1, λ _. given.0)

pub all_unset : (a : AbsState) (registers : List ℕ) (e : Refusal) → (e ≡ UnsetRegister) × HasUnset a registers → (e ≡ UnsetRegister) ↔ HasUnset a registers
all_unset a registers e given = (λ _. given.1, λ _. given.0)

pub none_unset : (a : AbsState) (registers : List ℕ) (e : Refusal) → e ≢ UnsetRegister → (HasUnset a registers → ⊥) → (e ≡ UnsetRegister) ↔ HasUnset a registers
none_unset a registers e other set = (λ is. absurd (other is), λ unset. absurd (set unset))

pub neither_unset : (a : AbsState) (r : ℕ) (rest : List ℕ) → (HasUnset a (r ∷ []) → ⊥) → (HasUnset a rest → ⊥) → HasUnset a (r ∷ rest) → ⊥
neither_unset a r rest first others unset = ⊎_elim (λ here. first (inl here)) (λ behind. others behind) unset

pub reads_first : (operation : Arithmetic) (register : ℕ) → operation ≢ is.Mov → read_first operation register ≡ register ∷ []
reads_first is.Mov register other = absurd (other refl)
reads_first is.Add register other = refl
reads_first is.Sub register other = refl
reads_first is.Mul register other = refl
reads_first is.Div register other = refl
reads_first is.Or register other = refl
reads_first is.And register other = refl
reads_first is.Lsh register other = refl
reads_first is.Rsh register other = refl
reads_first is.Mod register other = refl
reads_first is.Xor register other = refl
reads_first is.Arsh register other = refl
reads_first is.SignedDiv register other = refl
reads_first is.SignedMod register other = refl
