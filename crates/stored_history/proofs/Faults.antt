-- A change that is refused is not accepted.
use Rattle.std.proofs.Common.{◌≡◌, ℕ, ◌<◌, List, ◌++◌, length, take, Result, Ok, Err, IsErrAnd, MatchResult, refl, sym, subst, arith, inl, inr}
use Rattle.std.proofs.lemmas.Option.{slice_get_within}
use Rattle.change_ops.specs.Changes.{Change, operations}
use Rattle.change_ops.specs.declared.operation.Op.{Op}
use Rattle.change_ops.specs.declared.size.Size.{Size}
use Rattle.change_ops.specs.Sizes.{most_changes}
use Rattle.change_history.specs.Accepted.{MayFollow, MayNotFollow, AllFollow, IsFirstRefused, IsAccepted, IsRefused, operations_of}
use Rattle.change_history.specs.declared.refusal.Refusal.{Refusal}
use Rattle.change_history.specs.declared.refusal.Refusal.TheVariants.{StaleCounter, UnknownRef, DocumentFull, MarksFull}
use Rattle.change_history.specs.declared.refusal.SubmitError.{SubmitError}
use Rattle.change_history.specs.declared.refusal.SubmitError.TheVariants.{HistoryFull, Refused, OutOfMemory}
use Rattle.stored_history.specs.declared.error.OpenError.{OpenError}
use Rattle.stored_history.specs.declared.error.OpenError.TheVariants.{LogFailed, Damaged}
use Rattle.stored_history.specs.declared.error.OpenError.TheVariants as fault
use Rattle.stored_history.specs.Texts.{IsOnlyTextOf, IsFaultOf, IsNoText, text_error}

module _ (size : Size) where
  may_not : (ops : List Op) (op : Op) (refusal : Refusal) → MayNotFollow size ops op refusal → MayFollow size ops op → ⊥
  may_not ops op StaleCounter not may = may.accepted.fresh not
  may_not ops op UnknownRef not may = elim not.1 [
    | inl x ↦ x.2 (may.accepted.known x.0 x.1)
    | inr r ↦ r.2 (may.accepted.removal r.0 r.1)
  ]
  may_not ops op DocumentFull not may = may.accepted.room not.2
  may_not ops op MarksFull not may = may.room not.3

  first_not : (ops added : List Op) (index : ℕ) (refusal : Refusal) → IsFirstRefused size ops added index refusal → AllFollow size ops added (length added) → ⊥
  first_not ops added index refusal first all =
      may_not (ops ++ take index added) first.operation refusal first.refused
      (all index first.operation (slice_get_within added index first.operation first.here) first.here)

  -- so the text that it is the only change of is at fault
  pub refused_fault : (changes : List Change) (text : List ℕ) (change : Change) (number : ℕ) (error : SubmitError) → IsOnlyTextOf text change → IsRefused size changes change error → IsFaultOf size changes text number (text_error number error)
  refused_fault changes text change number HistoryFull only refused = (
    refl,
    λ candidate spelled accepted.
        let room : length changes < most_changes size = accepted.room in
        absurd (omega (arith, refused)),
  )
  refused_fault changes text change number (Refused index refusal) only refused = (
    refl,
    λ candidate spelled accepted.
        let follow : AllFollow size (operations_of changes) (operations change) (length (operations change)) = (subst (λ (c : Change). IsAccepted size changes c) (only.1 candidate spelled) accepted).follow in
        first_not (operations_of changes) (operations change) _ refusal refused.1.first follow,
  )
  refused_fault changes text change number OutOfMemory only refused = tt

  -- a text of no change is at fault
  pub no_text_fault : {R : Type 0} (r : Result R OpenError) (P : R → Type 0) (changes : List Change) (text : List ℕ) (number : ℕ) (error : OpenError) → IsErrAnd r (λ e. e ≡ error) → IsNoText text number error → MatchResult r P (IsFaultOf size changes text number)
  no_text_fault (Ok x) P changes text number error same why = absurd same
  no_text_fault (Err e) P changes text number LogFailed same why = absurd why
  no_text_fault (Err e) P changes text number (Damaged at) same why = subst (λ (x : OpenError). IsFaultOf size changes text number x) (sym same) (why.0, λ change spelled accepted. why.1 change spelled)
  no_text_fault (Err e) P changes text number fault.OutOfMemory same why = subst (λ (x : OpenError). IsFaultOf size changes text number x) (sym same) tt
