-- Runs of which the last is lengthened.
use Rattle.std.proofs.Common.{◌≡◌, ◌↔◌, ℕ, ◌+◌, ◌<◌, ◌≤◌, ◌⊎◌, List, [], ◌∷◌, ◌++◌, Some, inl, inr, length, set, sym, ap, ◌∙◌, subst, arith, ⊎_elim}
use Rattle.std.specs.Prelude.{◌^◌}
use Rattle.std.specs.List.{slice_get, Contains}
use Rattle.std.proofs.lemmas.Bool.{cases_lt}
use Rattle.std.proofs.lemmas.List.Elements.{Contains-append_left, Contains-push, Contains-push_cases}
use Rattle.std.proofs.lemmas.Option.{same_Some, slice_get_within}
use Rattle.char_sequence.proofs.Lists.{slice_get_set_same, slice_get_set_other}
use Rattle.mark_anchors.specs.CommentRuns.{HasPlace, HasRun, Precedes, AreOrderly}
use Rattle.mark_anchors.specs.declared.comment_runs.CommentRun.{CommentRun}
use Rattle.mark_anchors.proofs.Lists.{contains_at, contains_from}

-- ---- the last run, lengthened by one that begins where it ends
module _ (runs : List CommentRun) (i : ℕ) (last long run : CommentRun)
    (at : slice_get runs i ≡ Some last) (end : i + 1 ≡ length runs)
    (number : last.number ≡ run.number) (begins : last.to ≡ run.from) (along : run.from ≤ run.to)
    (same_number : long.number ≡ last.number) (same_from : long.from ≡ last.from) (ends : long.to ≡ run.to) where
  other_at : (k : ℕ) (x : CommentRun) → slice_get (set runs i long) k ≡ Some x → ((k < i) × (slice_get runs k ≡ Some x)) ⊎ ((k ≡ i) × (long ≡ x))
  other_at k x g =
      ⊎_elim
      (λ (before : k < i). inl (before, sym (slice_get_set_other runs i k long (λ (e : k ≡ i). absurd (omega arith))) ∙ g))
      (λ (from : i ≤ k).
      ⊎_elim
      (λ (behind : i < k).
      let old : slice_get runs k ≡ Some x = sym (slice_get_set_other runs i k long (λ (e : k ≡ i). absurd (omega arith))) ∙ g in
      let within : k < length runs = slice_get_within runs k x old in
      absurd (omega arith))
      (λ (to : k ≤ i).
      let same : k ≡ i = omega arith in
      inr (same, same_Some long x (sym (slice_get_set_same runs i long (omega arith)) ∙ ap (slice_get (set runs i long)) (sym same) ∙ g)))
      (cases_lt i k))
      (cases_lt k i)

  pub longer_cases : (other : CommentRun) → Contains (set runs i long) other → Contains runs other ⊎ (long ≡ other)
  longer_cases other held =
      let k = contains_at (set runs i long) other held in
      ⊎_elim
      (λ (old : (k.0 < i) × (slice_get runs k.0 ≡ Some other)). inl (contains_from runs k.0 other old.1))
      (λ (new : (k.0 ≡ i) × (long ≡ other)). inr new.1)
      (other_at k.0 other k.1)

  pub longer_there : Contains (set runs i long) long
  longer_there = contains_from (set runs i long) i long (slice_get_set_same runs i long (omega arith))

  pub orderly_longer : AreOrderly runs → AreOrderly (set runs i long)
  orderly_longer orderly =
      let there : Contains runs last = contains_from runs i last at in
      record {
        order =
            λ j k a b less g h.
            ⊎_elim
            (λ (early : (k < i) × (slice_get runs k ≡ Some b)).
            let early_k : k < i = early.0 in
            ⊎_elim
            (λ (old : (j < i) × (slice_get runs j ≡ Some a)). orderly.order j k a b less old.1 early.1)
            (λ (new : (j ≡ i) × (long ≡ a)). let same : j ≡ i = new.0 in absurd (omega arith))
            (other_at j a g))
            (λ (late : (k ≡ i) × (long ≡ b)).
            let same_k : k ≡ i = late.0 in
            ⊎_elim
            (λ (old : (j < i) × (slice_get runs j ≡ Some a)).
            subst (Precedes a) late.1
            (⊎_elim
            (λ (below : a.number < last.number). inl (omega arith))
            (λ (apart : (a.number ≡ last.number) × (a.to ≤ last.from)). let before : a.to ≤ last.from = apart.1 in inr (apart.0 ∙ sym same_number, omega arith))
            (orderly.order j i a last old.0 old.1 at)))
            (λ (new : (j ≡ i) × (long ≡ a)). let same : j ≡ i = new.0 in absurd (omega arith))
            (other_at j a g))
            (other_at k b h);
        along =
            λ other held.
            ⊎_elim
            (λ (old : Contains runs other). orderly.along other old)
            (λ (new : long ≡ other). let was : last.from ≤ last.to = orderly.along last there in subst (λ (z : CommentRun). z.from ≤ z.to) new (omega arith))
            (longer_cases other held);
        some =
            λ other held.
            ⊎_elim
            (λ (old : Contains runs other). orderly.some other old)
            (λ (new : long ≡ other). let was : 1 ≤ last.number = orderly.some last there in subst (λ (z : CommentRun). 1 ≤ z.number) new (omega arith))
            (longer_cases other held);
        short =
            λ other held.
            ⊎_elim
            (λ (old : Contains runs other). orderly.short other old)
            (λ (new : long ≡ other). subst (λ (z : CommentRun). z.number < 2 ^ 32) new (subst (λ n. n < 2 ^ 32) (sym same_number) (orderly.short last there)))
            (longer_cases other held);
      }

  pub places_longer : AreOrderly runs → (n place : ℕ) → HasRun (set runs i long) n place ↔ (HasRun runs n place ⊎ ((run.number ≡ n) × HasPlace run place))
  places_longer orderly n place = (split, joined)
    where
      there : Contains runs last
      there = contains_from runs i last at

      split : HasRun (set runs i long) n place → HasRun runs n place ⊎ ((run.number ≡ n) × HasPlace run place)
      split (other, held, is, has) =
          ⊎_elim
          (λ (old : Contains runs other). inl (other, old, is, has))
          (λ (new : long ≡ other).
          let low : long.from ≤ place = subst (λ (z : CommentRun). z.from ≤ place) (sym new) has.0 in
          let high : place < long.to = subst (λ (z : CommentRun). place < z.to) (sym new) has.1 in
          let named : long.number ≡ n = ap (λ (z : CommentRun). z.number) new ∙ is in
          ⊎_elim
          (λ (early : place < last.to). inl (last, there, sym same_number ∙ named, (omega arith, early)))
          (λ (late : last.to ≤ place). inr (sym number ∙ sym same_number ∙ named, (omega arith, omega arith)))
          (cases_lt place last.to))
          (longer_cases other held)

      was : (other : CommentRun) → Contains runs other → other.number ≡ n → HasPlace other place → HasRun (set runs i long) n place
      was other held is has =
          let k = contains_at runs other held in
          let within : k.0 < length runs = slice_get_within runs k.0 other k.1 in
          ⊎_elim
          (λ (before : k.0 < i). (other, contains_from (set runs i long) k.0 other (slice_get_set_other runs i k.0 long (λ (e : k.0 ≡ i). absurd (omega arith)) ∙ k.1), is, has))
          (λ (from : i ≤ k.0).
          let same : k.0 ≡ i = omega arith in
          let it : last ≡ other = same_Some last other (sym at ∙ ap (slice_get runs) (sym same) ∙ k.1) in
          let low : last.from ≤ place = subst (λ (z : CommentRun). z.from ≤ place) (sym it) has.0 in
          let high : place < last.to = subst (λ (z : CommentRun). place < z.to) (sym it) has.1 in
          (long, longer_there, same_number ∙ ap (λ (z : CommentRun). z.number) it ∙ is, (omega arith, omega arith)))
          (cases_lt k.0 i)

      joined : HasRun runs n place ⊎ ((run.number ≡ n) × HasPlace run place) → HasRun (set runs i long) n place
      joined (inl (other, held, is, has)) = was other held is has
      joined (inr (is, has)) =
          let low : run.from ≤ place = has.0 in
          let high : place < run.to = has.1 in
          let was_along : last.from ≤ last.to = orderly.along last there in
          (long, longer_there, same_number ∙ number ∙ is, (omega arith, omega arith))

  pub ends_longer : (other : CommentRun) → Contains (set runs i long) other → Contains runs other ⊎ ((other.number ≡ run.number) × (other.to ≡ run.to))
  ends_longer other held =
      ⊎_elim
      (λ (old : Contains runs other). inl old)
      (λ (new : long ≡ other). inr (ap (λ (z : CommentRun). z.number) (sym new) ∙ same_number ∙ number, ap (λ (z : CommentRun). z.to) (sym new) ∙ ends))
      (longer_cases other held)

-- ---- one run more
pub places_more : (runs : List CommentRun) (run : CommentRun) (n place : ℕ) → HasRun (runs ++ run ∷ []) n place ↔ (HasRun runs n place ⊎ ((run.number ≡ n) × HasPlace run place))
places_more runs run n place = (split, joined)
  where
    split : HasRun (runs ++ run ∷ []) n place → HasRun runs n place ⊎ ((run.number ≡ n) × HasPlace run place)
    split (other, held, is, has) =
        ⊎_elim
        (λ (old : Contains runs other). inl (other, old, is, has))
        (λ (new : run ≡ other). inr (ap (λ (z : CommentRun). z.number) new ∙ is, subst (λ z. HasPlace z place) (sym new) has))
        (Contains-push_cases runs run other held)

    joined : HasRun runs n place ⊎ ((run.number ≡ n) × HasPlace run place) → HasRun (runs ++ run ∷ []) n place
    joined (inl (other, held, is, has)) = (other, Contains-append_left runs (run ∷ []) other held, is, has)
    joined (inr (is, has)) = (run, Contains-push runs run, is, has)

pub ends_more : (runs : List CommentRun) (run other : CommentRun) → Contains (runs ++ run ∷ []) other → Contains runs other ⊎ ((other.number ≡ run.number) × (other.to ≡ run.to))
ends_more runs run other held =
    ⊎_elim
    (λ (old : Contains runs other). inl old)
    (λ (new : run ≡ other). inr (ap (λ (z : CommentRun). z.number) (sym new), ap (λ (z : CommentRun). z.to) (sym new)))
    (Contains-push_cases runs run other held)
