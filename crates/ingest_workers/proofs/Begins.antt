-- The hub's own share, as the hub begins.
use Rattle.std.proofs.Common.{◌≡◌, ℕ, cond, List, [], ◌∷◌, refl, ap, sym, ◌∙◌, subst, inr, ⊎_elim, arith}
use Rattle.std.proofs.lemmas.List.Sums.{sum_by-cons}
use Rattle.change_ops.specs.declared.size.Size.{Size}
use Rattle.feeds.specs.Batches.{Item}
use Rattle.hub_core.specs.Machine.{Core, IsStart}
use Rattle.call_history.specs.Calls.{Holds, AreOwn, is_at, own_count}
use Rattle.core_history.specs.declared.entry.Entry.TheVariants as entry
use Rattle.core_history.specs.Runs.{CoreEntry, Recorded, Starts, started, IsLegal}
use Rattle.core_history.specs.Shares.{is_accepted, Counts}
use Rattle.core_history.proofs.Counting.{counts_parts}

module _ {S : Type 0} (size : Size) (s : Core S) (parts : ℕ) (new : Recorded S) (w : Holds (CoreEntry S)) (starts : Starts size s parts new w) where
  -- its one call is the start
  pub own_start : AreOwn w
  own_start = subst AreOwn (sym starts.all) (record {
    within = λ k h. ⊎_elim (λ (e : 0 ≡ k). omega (arith, e)) (λ (n : ⊥). absurd n) h;
    distinct = ((λ h. h), tt);
  })

  pub no_change : own_count (is_accepted {S = S}) w ≡ 0
  no_change =
      ap (own_count (is_accepted {S = S})) starts.all
      ∙ sum_by-cons (λ k. cond (is_at (is_accepted {S = S}) (entry.Started starts.first ∷ []) k) 1 0) 0 []

  pub all_parts : w.parts ≡ parts
  all_parts = ap (λ (x : Holds (CoreEntry S)). x.parts) starts.all

  pub none_changed : new.core.changes ≡ []
  none_changed = ap (λ (r : Recorded S). r.core.changes) starts.recorded ∙ starts.start.changes

  -- all that it has seen is the start, which is a history
  pub legal_start : (sent : S → List Item) (full : S → Type 0) (closed_sink bare : S → S) → IsLegal size sent full closed_sink bare w.seen
  legal_start sent full closed_sink bare =
      subst (λ (x : Holds (CoreEntry S)). IsLegal size sent full closed_sink bare x.seen) (sym starts.all)
      (inr (started size starts.first, (subst (IsStart size) starts.core starts.start, refl)))

  -- and so it is once all parts but one are cut off
  pub house_begins : (house after : Holds (CoreEntry S)) → house ≡ w → after ≡ record { seen = house.seen; own = house.own; parts = 1 }
      → (after.parts ≡ 1) × (after.own ≡ 0 ∷ []) × Counts 0 after
  house_begins house after is cut = (
    ap (λ (x : Holds (CoreEntry S)). x.parts) cut,
    ap (λ (x : Holds (CoreEntry S)). x.own) (cut ∙ ap (λ (x : Holds (CoreEntry S)). record { seen = x.seen; own = x.own; parts = 1 }) (is ∙ starts.all)),
    subst (Counts 0) (sym (cut ∙ ap (λ (x : Holds (CoreEntry S)). record { seen = x.seen; own = x.own; parts = 1 }) is))
        (counts_parts 0 w 1 (record { own = own_start; accepted = sym no_change })),
  )
