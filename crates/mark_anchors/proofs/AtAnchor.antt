-- The ids of the marks at an anchor, one mark more at a time, and their order.
use Rattle.std.proofs.Common.{◌≡◌, ◌≢◌, ℕ, ◌+◌, ◌<◌, List, [], ◌∷◌, ◌++◌, Some, ◌⊎◌, inl, inr, length, sym, ap, ◌∙◌, subst, arith, ⊎_elim}
use Rattle.std.proofs.Math.ListN.{set}
use Rattle.std.specs.List.{slice_get, swap, Contains}
use Rattle.std.specs.List.Sorted.{IsPermutation, IsSortedByKey}
use Rattle.std.proofs.lemmas.Bool.{cases_eq}
use Rattle.std.proofs.lemmas.List.{length_push, length-set}
use Rattle.std.proofs.lemmas.List.Edits.{swap_is}
use Rattle.std.proofs.lemmas.List.Elements.{Contains-append_left, Contains-push}
use Rattle.std.proofs.lemmas.List.Sorted.{Contains-permutation, IsPermutation-keeps, IsPermutation-sym}
use Rattle.std.proofs.lemmas.Option.{same_Some, none-some, slice_get_within, get_or_from_slice_get}
use Rattle.change_ops.specs.Ids.{Less, id_cmp}
use Rattle.change_ops.specs.Operations.{id_of}
use Rattle.change_ops.specs.declared.id.OpId.{OpId}
use Rattle.change_ops.specs.declared.operation.Anchor.{Anchor}
use Rattle.change_ops.specs.declared.operation.Op.{Op}
use Rattle.char_sequence.proofs.Ids.{less_cases}
use Rattle.char_sequence.proofs.Lists.{slice_get_set_same, slice_get_set_other}
use Rattle.mark_anchors.specs.Anchored.{AreApart, AreRising, AreIdsAt}
use Rattle.mark_anchors.specs.Marks.{AreKept}
use Rattle.mark_anchors.proofs.IdOrder.{never_falls}
use Rattle.mark_anchors.proofs.Lists.{contains_at, contains_from, item_at, pushed_at, pushed_cases, first_or_last}

-- ---- marks of one id each
pub kept_none : AreKept []
kept_none = record { limit = omega arith; unique = λ i j o p g h same. absurd (none-some o g) }

pub kept_more : (marks : List Op) (op : Op) → AreKept marks → length marks < 16384 → ((o : Op) → Contains marks o → id_of o ≡ id_of op → ⊥) → AreKept (marks ++ op ∷ [])
kept_more marks op kept room fresh = record {
  limit = rw length_push (omega arith);
  unique =
      λ i j o p g h same.
      ⊎_elim
      (λ (old : slice_get marks i ≡ Some o).
      ⊎_elim
      (λ (too : slice_get marks j ≡ Some p). kept.unique i j o p old too same)
      (λ (new : (j ≡ length marks) × (op ≡ p)). absurd (fresh o (contains_from marks i o old) (same ∙ ap id_of (sym new.1))))
      (pushed_at marks op j p h))
      (λ (new : (i ≡ length marks) × (op ≡ o)).
      ⊎_elim
      (λ (old : slice_get marks j ≡ Some p). absurd (fresh p (contains_from marks j p old) (sym same ∙ ap id_of (sym new.1))))
      (λ (too : (j ≡ length marks) × (op ≡ p)). new.0 ∙ sym too.0)
      (pushed_at marks op j p h))
      (pushed_at marks op i o g);
}

-- ---- the ids at an anchor
-- the id of one of the first `count` marks, which stands so to the anchor
pub record IsIdOf (At : Op → Anchor → Type 0) (marks : List Op) (count : ℕ) (anchor : Anchor) (id : OpId) : Type 0 where
  pub index : ℕ
  pub before : index < count
  pub mark : Op
  pub there : slice_get marks index ≡ Some mark
  pub stands : At mark anchor
  pub named : id_of mark ≡ id

-- the ids of those of the first `count` marks that stand so to the anchor
pub record AreFound (At : Op → Anchor → Type 0) (marks : List Op) (count : ℕ) (anchor : Anchor) (ids : List OpId) : Type 0 where
  pub source : (i : ℕ) (x : OpId) → slice_get ids i ≡ Some x → IsIdOf At marks count anchor x
  pub apart : AreApart ids
  pub listed : (j : ℕ) (o : Op) → j < count → slice_get marks j ≡ Some o → At o anchor → Contains ids (id_of o)

pub found_none : (At : Op → Anchor → Type 0) (marks : List Op) (anchor : Anchor) → AreFound At marks 0 anchor []
found_none At marks anchor = record {
  source = λ i x g. absurd (none-some x g);
  apart = λ i j x g h. absurd (none-some x g);
  listed = λ j o less g stands. absurd (omega arith);
}

earlier : (At : Op → Anchor → Type 0) (marks : List Op) (count : ℕ) (anchor : Anchor) (id : OpId) → IsIdOf At marks count anchor id → IsIdOf At marks (count + 1) anchor id
earlier At marks count anchor id is =
    let before : is.index < count = is.before in
    record { index = is.index; before = omega arith; mark = is.mark; there = is.there; stands = is.stands; named = is.named }

module _ (At : Op → Anchor → Type 0) (marks : List Op) (kept : AreKept marks) (k : ℕ) (mark : Op) (at : slice_get marks k ≡ Some mark) (anchor : Anchor) (ids : List OpId) (found : AreFound At marks k anchor ids) where
  -- no id that was found is the mark's
  new_id : (i : ℕ) (x : OpId) → slice_get ids i ≡ Some x → id_of mark ≡ x → ⊥
  new_id i x g same =
      let is = found.source i x g in
      let before : is.index < k = is.before in
      let one : is.index ≡ k = kept.unique is.index k is.mark mark is.there at (is.named ∙ sym same) in
      absurd (omega arith)

  pub found_more : At mark anchor → AreFound At marks (k + 1) anchor (ids ++ id_of mark ∷ [])
  found_more stands = record {
    source =
        λ i x g.
        ⊎_elim
        (λ (old : slice_get ids i ≡ Some x). earlier At marks k anchor x (found.source i x old))
        (λ (new : id_of mark ≡ x). record { index = k; before = omega arith; mark = mark; there = at; stands = stands; named = new })
        (pushed_cases ids (id_of mark) i x g);
    apart =
        λ i j x g h.
        ⊎_elim
        (λ (old : slice_get ids i ≡ Some x).
        ⊎_elim
        (λ (too : slice_get ids j ≡ Some x). found.apart i j x old too)
        (λ (new : (j ≡ length ids) × (id_of mark ≡ x)). absurd (new_id i x old new.1))
        (pushed_at ids (id_of mark) j x h))
        (λ (new : (i ≡ length ids) × (id_of mark ≡ x)).
        ⊎_elim
        (λ (old : slice_get ids j ≡ Some x). absurd (new_id j x old new.1))
        (λ (too : (j ≡ length ids) × (id_of mark ≡ x)). new.0 ∙ sym too.0)
        (pushed_at ids (id_of mark) j x h))
        (pushed_at ids (id_of mark) i x g);
    listed =
        λ j o less g there.
        ⊎_elim
        (λ (old : j < k). Contains-append_left ids (id_of mark ∷ []) (id_of o) (found.listed j o old g there))
        (λ (last : (j ≡ k) × (mark ≡ o)). subst (λ z. Contains (ids ++ id_of mark ∷ []) (id_of z)) last.1 (Contains-push ids (id_of mark)))
        (first_or_last marks k j mark o less at g);
  }

  pub found_skipped : (At mark anchor → ⊥) → AreFound At marks (k + 1) anchor ids
  found_skipped not = record {
    source = λ i x g. earlier At marks k anchor x (found.source i x g);
    apart = found.apart;
    listed =
        λ j o less g there.
        ⊎_elim
        (λ (old : j < k). found.listed j o old g there)
        (λ (last : (j ≡ k) × (mark ≡ o)). absurd (not (subst (λ z. At z anchor) (sym last.1) there)))
        (first_or_last marks k j mark o less at g);
  }

-- ---- in their order
-- where an element of a list came from in which two have changed places
swapped_from : {X : Type 0} (xs : List X) (a b i : ℕ) (x y z : X) → slice_get xs a ≡ Some x → slice_get xs b ≡ Some y → slice_get (set (set xs a y) b x) i ≡ Some z
    → ((i ≡ b) × (slice_get xs a ≡ Some z)) ⊎ (((i ≡ a) × (slice_get xs b ≡ Some z)) ⊎ ((i ≢ a) × (i ≢ b) × (slice_get xs i ≡ Some z)))
swapped_from xs a b i x y z at_a at_b g =
    let in_a : a < length xs = slice_get_within xs a x at_a in
    let in_b : b < length xs = slice_get_within xs b y at_b in
    let sized : length (set xs a y) ≡ length xs = length-set xs a y in
    ⊎_elim
    (λ (last : i ≡ b).
    let same : x ≡ z = same_Some x z (sym (slice_get_set_same (set xs a y) b x (omega arith)) ∙ ap (slice_get (set (set xs a y) b x)) (sym last) ∙ g) in
    inl (last, at_a ∙ ap Some same))
    (λ (other : i ≢ b).
    let still : slice_get (set xs a y) i ≡ Some z = sym (slice_get_set_other (set xs a y) b i x other) ∙ g in
    ⊎_elim
    (λ (first : i ≡ a).
    let same : y ≡ z = same_Some y z (sym (slice_get_set_same xs a y in_a) ∙ ap (slice_get (set xs a y)) (sym first) ∙ still) in
    inr (inl (first, at_b ∙ ap Some same)))
    (λ (apart : i ≢ a). inr (inr (apart, other, sym (slice_get_set_other xs a i y apart) ∙ still)))
    (cases_eq i a))
    (cases_eq i b)

apart_swapped : (xs : List OpId) (a b : ℕ) → a < length xs → b < length xs → AreApart xs → AreApart (swap xs a b)
apart_swapped xs a b in_a in_b apart i j z g h =
    let x = item_at xs a in_a in
    let y = item_at xs b in_b in
    let is : set (set xs a y.0) b x.0 ≡ swap xs a b =
    ap (λ (p : OpId × OpId). set (set xs a p.0) b p.1) (λ t. (sym (get_or_from_slice_get xs b y.0 x.0 y.1) t, sym (get_or_from_slice_get xs a x.0 x.0 x.1) t))
    ∙ swap_is xs a b x.0 in_a in_b in
    let first = swapped_from xs a b i x.0 y.0 z x.1 y.1 (ap (λ l. slice_get l i) is ∙ g) in
    let second = swapped_from xs a b j x.0 y.0 z x.1 y.1 (ap (λ l. slice_get l j) is ∙ h) in
    ⊎_elim
    (λ (f : (i ≡ b) × (slice_get xs a ≡ Some z)).
    ⊎_elim
    (λ (s : (j ≡ b) × (slice_get xs a ≡ Some z)). f.0 ∙ sym s.0)
    (λ (r : ((j ≡ a) × (slice_get xs b ≡ Some z)) ⊎ ((j ≢ a) × (j ≢ b) × (slice_get xs j ≡ Some z))).
    ⊎_elim
    (λ (s : (j ≡ a) × (slice_get xs b ≡ Some z)). f.0 ∙ sym (apart a b z f.1 s.1) ∙ sym s.0)
    (λ (s : (j ≢ a) × (j ≢ b) × (slice_get xs j ≡ Some z)). absurd (s.0 (apart j a z s.2 f.1)))
    r)
    second)
    (λ (q : ((i ≡ a) × (slice_get xs b ≡ Some z)) ⊎ ((i ≢ a) × (i ≢ b) × (slice_get xs i ≡ Some z))).
    ⊎_elim
    (λ (f : (i ≡ a) × (slice_get xs b ≡ Some z)).
    ⊎_elim
    (λ (s : (j ≡ b) × (slice_get xs a ≡ Some z)). f.0 ∙ apart a b z s.1 f.1 ∙ sym s.0)
    (λ (r : ((j ≡ a) × (slice_get xs b ≡ Some z)) ⊎ ((j ≢ a) × (j ≢ b) × (slice_get xs j ≡ Some z))).
    ⊎_elim
    (λ (s : (j ≡ a) × (slice_get xs b ≡ Some z)). f.0 ∙ sym s.0)
    (λ (s : (j ≢ a) × (j ≢ b) × (slice_get xs j ≡ Some z)). absurd (s.1 (apart j b z s.2 f.1)))
    r)
    second)
    (λ (f : (i ≢ a) × (i ≢ b) × (slice_get xs i ≡ Some z)).
    ⊎_elim
    (λ (s : (j ≡ b) × (slice_get xs a ≡ Some z)). absurd (f.0 (apart i a z f.2 s.1)))
    (λ (r : ((j ≡ a) × (slice_get xs b ≡ Some z)) ⊎ ((j ≢ a) × (j ≢ b) × (slice_get xs j ≡ Some z))).
    ⊎_elim
    (λ (s : (j ≡ a) × (slice_get xs b ≡ Some z)). absurd (f.1 (apart i b z f.2 s.1)))
    (λ (s : (j ≢ a) × (j ≢ b) × (slice_get xs j ≡ Some z)). apart i j z f.2 s.2)
    r)
    second)
    q)
    first

apart_permuted : (xs ys : List OpId) → IsPermutation xs ys → AreApart xs → AreApart ys
apart_permuted xs ys permuted apart = IsPermutation-keeps xs AreApart apart apart_swapped ys permuted

pub rising_from_sort : (ids sorted : List OpId) → IsPermutation ids sorted → IsSortedByKey (λ (id : OpId). id) id_cmp sorted → AreApart ids → AreRising sorted
rising_from_sort ids sorted permuted is apart i j x y less g h =
    ⊎_elim
    (λ (l : Less x y). l)
    (λ (r : (x ≡ y) ⊎ Less y x).
    ⊎_elim
    (λ (same : x ≡ y).
    let one : i ≡ j = apart_permuted ids sorted permuted apart i j x g (h ∙ ap Some (sym same)) in
    absurd (omega arith))
    (λ (l : Less y x). absurd (never_falls (λ (id : OpId). id) sorted is i j x y less g h l))
    r)
    (less_cases x y)

pub ids_found : (At : Op → Anchor → Type 0) (marks : List Op) (count : ℕ) (anchor : Anchor) (ids sorted : List OpId) → count ≡ length marks → AreFound At marks count anchor ids → IsPermutation ids sorted → AreRising sorted → AreIdsAt At marks anchor sorted
ids_found At marks count anchor ids sorted whole found permuted rising = record {
  rising = rising;
  held =
      λ id c.
      let i = contains_at ids id (Contains-permutation sorted ids id (IsPermutation-sym ids sorted permuted) c) in
      let is = found.source i.0 id i.1 in
      (is.mark, contains_from marks is.index is.mark is.there, is.stands, is.named);
  listed =
      λ o c stands.
      let j = contains_at marks o c in
      let within : j.0 < length marks = slice_get_within marks j.0 o j.1 in
      Contains-permutation ids sorted (id_of o) permuted (found.listed j.0 o (omega arith) j.1 stands);
}
