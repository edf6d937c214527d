-- Which open subscriber has a job.
use Rattle.std.proofs.Common.{◌≡◌, ℕ, ◌+◌, ◌<◌, ◌≤◌, None, length, sym, ◌∙◌, subst, arith, ⊎_elim}
use Rattle.std.specs.Prelude.{slice_get, Some}
use Rattle.std.proofs.lemmas.Bool.{cases_lt}
use Rattle.std.proofs.lemmas.Option.{same_Some, slice_get_within}
use Rattle.hub_core.specs.Machine.{Core, FindsAt}
use Rattle.hub_core.specs.Opened.{open_ids}
use Rattle.hub_core.proofs.Opened.{ids_have, open_rises}

module _ {S : Type 0} where
  -- the first open ones, as many as these, have none
  abbrev pub HaveNone : Core S → ℕ → Type 0
  HaveNone s many = (k id : ℕ) → k < many → slice_get (open_ids 0 s.subscribers) k ≡ Some id → FindsAt s id None

  pub none_more : (s : Core S) (k id : ℕ) → slice_get (open_ids 0 s.subscribers) k ≡ Some id → HaveNone s k → FindsAt s id None → HaveNone s (k + 1)
  none_more s k id at none here j other less at_j =
      ⊎_elim (λ (front : j < k). none j other front at_j)
      (λ (past : k ≤ j).
      let last : j ≡ k = omega (arith, less, past) in
      let one : id ≡ other = same_Some id other (sym at ∙ subst (λ n. slice_get (open_ids 0 s.subscribers) n ≡ Some other) last at_j) in
      subst (λ n. FindsAt s n None) one here) (cases_lt j k)

  -- so none with a lower id has one
  pub none_below : (s : Core S) (k id : ℕ) → slice_get (open_ids 0 s.subscribers) k ≡ Some id → HaveNone s k → (other : ℕ) → other < id → FindsAt s other None
  none_below s k id at none other less = λ a is_open.
      let has = ids_have s.subscribers other a is_open.0 is_open.1 in
      none has.0 other (open_rises 0 s.subscribers has.0 k other id has.1 at less) has.1 a is_open

  -- or none at all
  pub none_left : (s : Core S) (k : ℕ) → length (open_ids 0 s.subscribers) ≤ k → HaveNone s k → (id : ℕ) → FindsAt s id None
  none_left s k past none id = λ a is_open.
      let has = ids_have s.subscribers id a is_open.0 is_open.1 in
      none has.0 id (omega (arith, past, slice_get_within (open_ids 0 s.subscribers) has.0 id has.1)) has.1 a is_open
