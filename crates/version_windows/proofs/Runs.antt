-- The characters of a run stand in order.
use Rattle.std.proofs.Common.{◌≡◌, ℕ, zero, suc, ◌+◌, ◌-◌, ◌<◌, ◌≤◌, List, [], ◌∷◌, Option, Some, inl, inr, length, refl, sym, ap, subst, ◌∙◌, arith, ⊎_elim}
use Rattle.std.specs.List.{slice_get, Contains}
use Rattle.std.proofs.lemmas.Option.{same_Some, none-some, slice_get_within}
use Rattle.change_ops.specs.IdRuns.{later_id}
use Rattle.change_ops.specs.Runs.{next_id, inserts_from}
use Rattle.change_ops.specs.declared.id.OpId.{OpId}
use Rattle.change_ops.specs.declared.operation.Op.{Op}
use Rattle.change_ops.specs.declared.operation.Op.TheVariants.{Insert}
use Rattle.change_ops.proofs.RunInserts.{before, insert_of}
use Rattle.char_sequence.specs.declared.sequence.Element.{Element}
use Rattle.char_sequence.specs.Tree.{Inserts, itself}
use Rattle.char_sequence.specs.Order.{Before, IsAt, Shows}
use Rattle.char_sequence.proofs.Steps.{stands}
use Rattle.char_sequence.proofs.TreeLaws.{before_trans}
use Rattle.mark_anchors.specs.Anchors.{NotAfter}
use Rattle.mark_anchors.proofs.Lists.{item_at}
use Rattle.mark_anchors.proofs.Places.{places_from_not_after}
use Rattle.span_flatten.proofs.Showing.{contains_at, at_contains}
use Rattle.version_laws.specs.Touched.{StandsWithin, TouchesWithin}

insert_at : (cs : List ℕ) (id : OpId) (parent : Option OpId) (i : ℕ) (o : Op) → slice_get (inserts_from id parent cs) i ≡ Some o → (c : ℕ) × (slice_get cs i ≡ Some c)
unfolding inserts_from
insert_at [] id parent i o g = absurd (none-some o g)
insert_at (c ∷ cs) id parent zero o g = (c, refl)
insert_at (c ∷ cs) id parent (suc i) o g = insert_at cs (next_id id) (Some id) i o g

module _ (ops : List Op) (es : List Element) (shows : Shows es ops) (id : OpId) (parent : Option OpId) (cs : List ℕ)
    (held : (o : Op) → Contains (inserts_from id parent cs) o → Contains ops o) where
  inserted : (i : ℕ) → i < length cs → Inserts ops (later_id id i) (before id parent i)
  inserted i less =
      let c = item_at cs i less in
      let o : Op = Insert (later_id id i) (before id parent i) c.0 in
      (c.0, held o (contains_at (inserts_from id parent cs) i o (insert_of cs id parent i c.0 c.1)))

  -- each stands before those that were typed later
  in_order : (i n : ℕ) → i + n < length cs → NotAfter ops (later_id id i) (later_id id (i + n))
  in_order i zero less = let same : i ≡ i + zero = omega arith in inl (ap (later_id id) same)
  in_order i (suc n) less =
      let e : suc (i + n) ≡ i + suc n = omega arith in
      let next : Before ops (Some (later_id id (i + n))) (later_id id (suc (i + n))) = inl (Some (later_id id (i + n)), itself, inserted (suc (i + n)) (omega arith)) in
      let far : Before ops (Some (later_id id i)) (later_id id (suc (i + n))) =
      ⊎_elim
      (λ (same : later_id id i ≡ later_id id (i + n)). subst (λ x. Before ops (Some x) (later_id id (suc (i + n)))) (sym same) next)
      (λ (ahead : Before ops (Some (later_id id i)) (later_id id (i + n))). before_trans ops shows.tree (Some (later_id id i)) (later_id id (i + n)) (later_id id (suc (i + n))) ahead next)
      (in_order i n (omega arith)) in
      inr (subst (λ k. Before ops (Some (later_id id i)) (later_id id k)) e far)

  up_to : (i j : ℕ) → i ≤ j → j < length cs → (a b : ℕ) → IsAt es (later_id id i) a → IsAt es (later_id id j) b → a ≤ b
  up_to i j le less a b at_a at_b =
      let e : i + (j - i) ≡ j = omega arith in
      places_from_not_after ops es shows (later_id id i) (later_id id j) a b at_a at_b
      (subst (λ k. NotAfter ops (later_id id i) (later_id id k)) e (in_order i (j - i) (omega arith)))

  -- the insert at an index of the run stands within places only if its character does
  placed : (i : ℕ) (o : Op) (all : List Op) (low high : ℕ) → slice_get (inserts_from id parent cs) i ≡ Some o → TouchesWithin all es low high o → StandsWithin es low high (later_id id i)
  placed i o all low high g t =
      let c = insert_at cs id parent i o g in
      let same : o ≡ Insert (later_id id i) (before id parent i) c.0 = same_Some o (Insert (later_id id i) (before id parent i) c.0) (sym g ∙ insert_of cs id parent i c.0 c.1) in
      subst (TouchesWithin all es low high) same t

  -- From the places of the first one to those of the last one stand all.
  module _ (all : List Op) (first last : Op) (count low high' low' high : ℕ) (some : 0 < count) (size : count ≡ length cs)
      (first_is : slice_get (inserts_from id parent cs) 0 ≡ Some first) (last_is : slice_get (inserts_from id parent cs) (count - 1) ≡ Some last)
      (begins : TouchesWithin all es low high' first) (ends : TouchesWithin all es low' high last) where
    pub run_touched : (o : Op) → Contains (inserts_from id parent cs) o → TouchesWithin all es low high o
    run_touched o is =
        let at = at_contains (inserts_from id parent cs) o is in
        let i : ℕ = at.0 in
        let c = insert_at cs id parent i o at.1 in
        let less : i < length cs = slice_get_within cs i c.0 c.1 in
        let same : o ≡ Insert (later_id id i) (before id parent i) c.0 = same_Some o (Insert (later_id id i) (before id parent i) c.0) (sym at.1 ∙ insert_of cs id parent i c.0 c.1) in
        let here = stands ops es shows.text (later_id id i) (before id parent i, inserted i less) in
        let one = placed 0 first all low high' first_is begins in
        let other = placed (count - 1) last all low' high last_is ends in
        let above : one.0 ≤ here.0 = up_to 0 i (omega arith) less one.0 here.0 one.1 here.1 in
        let below : here.0 ≤ other.0 = up_to i (count - 1) (omega arith) (omega arith) here.0 other.0 here.1 other.1 in
        let from : low ≤ one.0 = one.2 in
        let to : other.0 < high = other.3 in
        subst (TouchesWithin all es low high) (sym same) (here.0, here.1, omega arith, omega arith)

    pub run_order : low ≤ high
    run_order =
        let p = placed 0 first all low high first_is (run_touched first (contains_at (inserts_from id parent cs) 0 first first_is)) in
        let from : low ≤ p.0 = p.2 in
        let to : p.0 < high = p.3 in
        omega arith
