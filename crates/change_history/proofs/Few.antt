-- Accepted changes have as many inserts and mark operations as the size allows at most.
use Rattle.std.proofs.Common.{◌≡◌, ℕ, zero, suc, ◌+◌, ◌≤◌, ◌<◌, Bool, true, false, cond, List, [], ◌∷◌, ◌++◌, Some, length, take, refl, sym, ap, ◌∙◌, subst, arith, append_assoc, ⊎_elim, inl}
use Rattle.std.specs.List.{slice_get, count_by}
use Rattle.std.proofs.Math.Seq.{take-length}
use Rattle.std.proofs.lemmas.Bool.{cases_Bool, cases_lt}
use Rattle.std.proofs.lemmas.List.{append-nil}
use Rattle.std.proofs.lemmas.Option.{slice_get_within}
use Rattle.change_ops.specs.Changes.{Change, operations}
use Rattle.change_ops.specs.Operations.{is_insert, is_mark}
use Rattle.change_ops.specs.Sizes.{most_characters, most_marks}
use Rattle.change_ops.specs.declared.operation.Op.{Op}
use Rattle.change_ops.specs.declared.size.Size.{Size}
use Rattle.char_sequence.proofs.Holding.{count_push}
use Rattle.change_history.specs.Accepted.{operations_of, AreAccepted}
use Rattle.change_history.proofs.Chronicle.{operations_of-push, take_push}

reaches : {X : Type 0} (xs : List X) (i : ℕ) → i < length xs → (x : X) × (slice_get xs i ≡ Some x)
reaches [] i low = absurd (omega arith)
reaches (x ∷ xs) zero low = (x, refl)
reaches (x ∷ xs) (suc i) low = reaches xs i (omega arith)

whole : {X : Type 0} (xs : List X) → take (length xs) xs ≡ xs
whole xs = take-length xs

-- where each that passes stands behind fewer than so many, there are no more
module _ (p : Op → Bool) (most : ℕ) where
  abbrev Follow : List Op → List Op → Type 0
  Follow ops added = (i : ℕ) (op : Op) → slice_get added i ≡ Some op → p op ≡ true → count_by p (ops ++ take i added) < most

  one_more : (ops added : List Op) (o : Op) → Follow ops (o ∷ added) → count_by p ops ≤ most → count_by p (ops ++ o ∷ []) ≤ most
  one_more ops added o follow low =
      let count : count_by p (ops ++ o ∷ []) ≡ count_by p ops + cond (p o) 1 0 = count_push p ops o in
      ⊎_elim
      (λ (yes' : p o ≡ true).
      let less : count_by p ops < most = subst (λ l. count_by p l < most) (append-nil ops) (follow 0 o refl yes') in
      let grown = count ∙ ap (λ b. count_by p ops + cond b 1 0) yes' in
      omega (arith, grown, less))
      (λ (no' : p o ≡ false).
      let grown = count ∙ ap (λ b. count_by p ops + cond b 1 0) no' in
      omega (arith, grown, low))
      (cases_Bool (p o))

  no_more : (added ops : List Op) → Follow ops added → count_by p ops ≤ most → count_by p (ops ++ added) ≤ most
  no_more [] ops follow low = subst (λ l. count_by p l ≤ most) (sym (append-nil ops)) low
  no_more (o ∷ added) ops follow low =
      subst (λ l. count_by p l ≤ most) (append_assoc ops (o ∷ []) added)
      (no_more added (ops ++ o ∷ [])
      (λ i op g passes. subst (λ l. count_by p l < most) (sym (append_assoc ops (o ∷ []) (take i added))) (follow (suc i) op g passes))
      (one_more ops added o follow low))

  -- the same of changes
  few_of : (changes : List Change) → ((n : ℕ) (change : Change) → slice_get changes n ≡ Some change → Follow (operations_of (take n changes)) (operations change)) → (n : ℕ) → n ≤ length changes → count_by p (operations_of (take n changes)) ≤ most
  unfolding operations_of
  few_of changes each zero low = omega arith
  few_of changes each (suc n) low =
      let x = reaches changes n (omega arith) in
      let one : n + 1 ≡ suc n = omega arith in
      let grown : operations_of (take (suc n) changes) ≡ operations_of (take n changes) ++ operations x.0 = ap (λ k. operations_of (take k changes)) (sym one) ∙ ap operations_of (take_push changes n x.0 x.1) ∙ operations_of-push (take n changes) x.0 in
      subst (λ l. count_by p l ≤ most) (sym grown) (no_more (operations x.0) (operations_of (take n changes)) (each n x.0 x.1) (few_of changes each n (omega arith)))

module _ {size : Size} where
  pub few_inserted : (changes : List Change) → AreAccepted size changes → count_by is_insert (operations_of changes) ≤ most_characters size
  few_inserted changes all =
      subst (λ l. count_by is_insert (operations_of l) ≤ most_characters size) (whole changes)
      (few_of is_insert (most_characters size) changes
      (λ n change here i op g insert.
      let m = (all n change here).follow i op (slice_get_within (operations change) i op g) g in
      let ops = operations_of (take n changes) ++ take i (operations change) in
      ⊎_elim
      (λ (low : count_by is_insert ops < most_characters size). low)
      (λ (many : most_characters size ≤ count_by is_insert ops). absurd (m.accepted.room (inl (insert, many))))
      (cases_lt (count_by is_insert ops) (most_characters size)))
      (length changes) (omega arith))

  pub few_mark_count : (changes : List Change) → AreAccepted size changes → count_by is_mark (operations_of changes) ≤ most_marks size
  few_mark_count changes all =
      subst (λ l. count_by is_mark (operations_of l) ≤ most_marks size) (whole changes)
      (few_of is_mark (most_marks size) changes
      (λ n change here i op g mark.
      let m = (all n change here).follow i op (slice_get_within (operations change) i op g) g in
      let ops = operations_of (take n changes) ++ take i (operations change) in
      ⊎_elim
      (λ (low : count_by is_mark ops < most_marks size). low)
      (λ (many : most_marks size ≤ count_by is_mark ops). absurd (m.room (mark, many)))
      (cases_lt (count_by is_mark ops) (most_marks size)))
      (length changes) (omega arith))
