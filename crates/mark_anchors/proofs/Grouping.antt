-- The marks of comments, one mark more at a time, and those of one comment side by side.
use Rattle.std.proofs.Common.{◌≡◌, ℕ, ◌+◌, ◌-◌, ◌<◌, ◌≤◌, List, [], ◌∷◌, ◌++◌, Some, length, get_or, take, drop, sym, ap, refl, ◌∙◌, subst, arith, ⊎_elim, length-drop}
use Rattle.std.specs.List.{slice_get, Contains}
use Rattle.std.specs.List.Sorted.{IsStrictlyIncreasing, IsNonDecreasingBy, IsPermutation, IsBinarySearchResult}
use Rattle.std.specs.Ordering.{nat_cmp}
use Rattle.std.specs.declared.result.Result.TheVariants.{Err}
use Rattle.std.proofs.lemmas.Bool.{cases_lt}
use Rattle.std.proofs.lemmas.List.{get_or-take, get_or-drop, length-take-le, length-map}
use Rattle.std.proofs.lemmas.List.Elements.{Contains-append_left, Contains-push, Contains-push_cases}
use Rattle.std.proofs.lemmas.List.Sorted.{searched, Contains-permutation, IsPermutation-sym}
use Rattle.std.specs.Option.{option_map}
use Rattle.std.proofs.lemmas.Option.{same_Some, slice_get_within, slice_get-map, get_or_from_slice_get}
use Rattle.change_ops.specs.declared.attribute.Key.TheVariants.{Comment}
use Rattle.change_ops.specs.declared.operation.Op.{Op}
use Rattle.char_sequence.specs.declared.sequence.Element.{Element}
use Rattle.mark_anchors.specs.Commented.{AreCommented, AreNumbered, IsCommentEnd, number_of, placed_of}
use Rattle.mark_anchors.specs.Placed.{AreAllPlaced, ArePlaced, IsPlaced}
use Rattle.mark_anchors.specs.declared.comments.CommentMark.{CommentMark}
use Rattle.mark_anchors.specs.declared.placed.PlacedMark.{PlacedMark}
use Rattle.mark_anchors.proofs.Gathering.{mark_at, one_key}
use Rattle.mark_anchors.proofs.IdOrder.{non_decreasing}
use Rattle.mark_anchors.proofs.Lists.{contains_at, contains_from, item_at, read_at, first_or_last}
use Rattle.mark_anchors.proofs.Painting.{ascending}

-- ---- a number among rising ones
pub number_missed : (xs : List ℕ) → IsStrictlyIncreasing xs → (x n : ℕ) → IsBinarySearchResult (λ y. nat_cmp y x) xs (Err n) → Contains xs x → ⊥
number_missed xs rising x n is held =
    let r = searched xs x (Err n) is (ascending xs rising) in
    let at = contains_at xs x held in
    let here : get_or xs at.0 0 ≡ x = get_or_from_slice_get xs at.0 x 0 at.1 in
    let inside : at.0 < length xs = slice_get_within xs at.0 x at.1 in
    ⊎_elim
    (λ (less : at.0 < n). let low : get_or xs at.0 0 < x = r.1 at.0 less in absurd (omega arith))
    (λ (ge : n ≤ at.0). let high : x < get_or xs at.0 0 = r.2 at.0 ge inside in absurd (omega arith))
    (cases_lt at.0 n)

-- ---- the marks of comments among the first marks
-- the first `count` marks that are of comments, with the comments' numbers
pub record AreFirstNumbered (marks : List PlacedMark) (count : ℕ) (comments : List CommentMark) : Type 0 where
  pub held : (c : CommentMark) → Contains comments c → Contains marks c.mark × (c.mark.key ≡ Comment c.number)
  pub every : (j n : ℕ) (p : PlacedMark) → j < count → slice_get marks j ≡ Some p → p.key ≡ Comment n
      → Contains comments (record { number = n; mark = p })

not_among : {X : Type 0} (x : X) → Contains [] x → ⊥
not_among x held = let within : held.0 < 0 = held.1 in absurd (omega arith)

pub numbered_none : (marks : List PlacedMark) → AreFirstNumbered marks 0 []
numbered_none marks = record { held = λ c held. absurd (not_among c held); every = λ j n p less g is. absurd (omega arith) }

one_number : (a b : ℕ) → Comment a ≡ Comment b → a ≡ b
one_number a b is = cc

module _ (marks : List PlacedMark) (k : ℕ) (mark : PlacedMark) (at : slice_get marks k ≡ Some mark)
    (comments : List CommentMark) (first : AreFirstNumbered marks k comments) where
  pub numbered_more : (n : ℕ) → mark.key ≡ Comment n
      → AreFirstNumbered marks (k + 1) (comments ++ (record { number = n; mark = mark }) ∷ [])
  numbered_more n is =
      let more : CommentMark = record { number = n; mark = mark } in
      record {
        held =
            λ c held.
            ⊎_elim
            (λ (old : Contains comments c). first.held c old)
            (λ (new : more ≡ c).
            subst (λ (z : CommentMark). Contains marks z.mark × (z.mark.key ≡ Comment z.number)) new
            (contains_from marks k mark at, is))
            (Contains-push_cases comments more c held);
        every =
            λ j m p less g key.
            ⊎_elim
            (λ (old : j < k). Contains-append_left comments (more ∷ []) (record { number = m; mark = p }) (first.every j m p old g key))
            (λ (last : (j ≡ k) × (mark ≡ p)).
            let number : n ≡ m = one_number n m (sym is ∙ ap (λ (z : PlacedMark). z.key) last.1 ∙ key) in
            let same : more ≡ record { number = m; mark = p } = λ i. record { number = number i; mark = last.1 i } in
            subst (λ z. Contains (comments ++ more ∷ []) z) same (Contains-push comments more))
            (first_or_last marks k j mark p less at g);
      }

  pub numbered_skipped : ((n : ℕ) → mark.key ≡ Comment n → ⊥) → AreFirstNumbered marks (k + 1) comments
  numbered_skipped not = record {
    held = first.held;
    every =
        λ j m p less g key.
        ⊎_elim
        (λ (old : j < k). first.every j m p old g key)
        (λ (last : (j ≡ k) × (mark ≡ p)). absurd (not m (ap (λ (z : PlacedMark). z.key) last.1 ∙ key)))
        (first_or_last marks k j mark p less at g);
  }

pub numbered_all : (marks : List PlacedMark) (count : ℕ) (comments : List CommentMark) → count ≡ length marks
    → AreFirstNumbered marks count comments → AreNumbered marks comments
numbered_all marks count comments whole first = record {
  held = first.held;
  every =
      λ n p held key.
      let j = contains_at marks p held in
      let within : j.0 < length marks = slice_get_within marks j.0 p j.1 in
      first.every j.0 n p (omega arith) j.1 key;
}

-- ---- by rising numbers
pub commented_from_sort : (es : List Element) (operations : List Op) (marks : List PlacedMark)
    (comments sorted : List CommentMark) → AreAllPlaced es operations marks → AreNumbered marks comments
    → IsPermutation comments sorted → IsNonDecreasingBy number_of sorted → AreCommented es operations sorted
commented_from_sort es operations marks comments sorted are numbered permuted rising = record {
  rising = rising;
  placed =
      λ c held.
      let was = numbered.held c (Contains-permutation sorted comments c (IsPermutation-sym comments sorted permuted) held) in
      let i = contains_at marks c.mark was.0 in
      let p = are.placed i.0 c.mark i.1 in (
        p.1.0,
        ap (slice_get operations) p.0 ∙ p.1.1,
        subst (λ k. IsPlaced es k p.1.0 c.mark) was.1 p.1.2,
      );
  every =
      λ j n o at of_key.
      let m = mark_at es operations marks are j o at in
      let key = one_key m.0.key (Comment n) o m.2.of_key of_key in
      let c : CommentMark = record { number = n; mark = m.0 } in
      let held = numbered.every n m.0 (contains_from marks j m.0 m.1) key in
      (c, Contains-permutation comments sorted c permuted held, refl, (are.placed j m.0 m.1).0);
}

-- ---- the marks alone
placed_there : (cs : List CommentMark) (i : ℕ) (c : CommentMark) → slice_get cs i ≡ Some c → slice_get (placed_of cs) i ≡ Some c.mark
placed_there cs i c g = slice_get-map (λ (z : CommentMark). z.mark) cs i ∙ ap (option_map (λ (z : CommentMark). z.mark)) g

placed_source : (cs : List CommentMark) (i : ℕ) (p : PlacedMark) → slice_get (placed_of cs) i ≡ Some p
    → (c : CommentMark) × (slice_get cs i ≡ Some c) × (c.mark ≡ p)
placed_source cs i p g =
    let within : i < length (placed_of cs) = slice_get_within (placed_of cs) i p g in
    let sized : length (placed_of cs) ≡ length cs = length-map cs (λ (c : CommentMark). c.mark) in
    let c = item_at cs i (omega arith) in
    (c.0, c.1, same_Some c.0.mark p (sym (placed_there cs i c.0 c.1) ∙ g))

pub alone_in_range : (cs : List CommentMark) (marks : List PlacedMark) (count : ℕ) → IsPermutation (placed_of cs) marks
    → ((c : CommentMark) → Contains cs c → c.mark.index < count) → (i : ℕ) (p : PlacedMark) → slice_get marks i ≡ Some p → p.index < count
alone_in_range cs marks count permuted low i p g =
    let j = contains_at (placed_of cs) p (Contains-permutation marks (placed_of cs) p (IsPermutation-sym (placed_of cs) marks permuted) (contains_from marks i p g)) in
    let c = placed_source cs j.0 p j.1 in
    subst (λ (z : PlacedMark). z.index < count) c.2 (low c.0 (contains_from cs j.0 c.0 c.1))

-- ---- a part of a list
module _ {X : Type 0} (xs : List X) (from to : ℕ) (within : to ≤ length xs) where
  pub part_source : (i : ℕ) (x : X) → slice_get (take (to - from) (drop from xs)) i ≡ Some x
      → (i < to - from) × (slice_get xs (from + i) ≡ Some x)
  part_source i x g =
      let rest : length (drop from xs) ≡ length xs - from = length-drop from xs in
      let sized : length (take (to - from) (drop from xs)) ≡ to - from = length-take-le (to - from) (drop from xs) (omega arith) in
      let inside : i < length (take (to - from) (drop from xs)) = slice_get_within (take (to - from) (drop from xs)) i x g in
      let low : i < to - from = omega arith in
      let is : get_or xs (from + i) x ≡ x =
      sym (get_or-drop from xs i x) ∙ sym (get_or-take (to - from) (drop from xs) i x low)
      ∙ get_or_from_slice_get (take (to - from) (drop from xs)) i x x g in
      (low, read_at xs (from + i) x (sym is) (omega arith))

  pub part_there : (i : ℕ) (x : X) → from ≤ i → i < to → slice_get xs i ≡ Some x
      → slice_get (take (to - from) (drop from xs)) (i - from) ≡ Some x
  part_there i x ge less g =
      let rest : length (drop from xs) ≡ length xs - from = length-drop from xs in
      let sized : length (take (to - from) (drop from xs)) ≡ to - from = length-take-le (to - from) (drop from xs) (omega arith) in
      let sum : from + (i - from) ≡ i = omega arith in
      let is : get_or (take (to - from) (drop from xs)) (i - from) x ≡ x =
      get_or-take (to - from) (drop from xs) (i - from) x (omega arith) ∙ get_or-drop from xs (i - from) x
      ∙ ap (λ k. get_or xs k x) sum ∙ get_or_from_slice_get xs i x x g in
      read_at (take (to - from) (drop from xs)) (i - from) x (sym is) (omega arith)

-- ---- the marks of one comment side by side
module _ (es : List Element) (operations : List Op) (cs : List CommentMark) (commented : AreCommented es operations cs) (from to : ℕ) (is : IsCommentEnd cs from to)
    (first : CommentMark) (at : slice_get cs from ≡ Some first) where
  -- those behind them are of greater numbers
  pub numbers_behind : (i : ℕ) (c : CommentMark) → to ≤ i → slice_get cs i ≡ Some c → first.number < c.number
  numbers_behind i c ge g =
      let inside : i < length cs = slice_get_within cs i c g in
      let some : from < to = is.some in
      let next = item_at cs to (omega arith) in
      let low : first.number ≤ next.0.number = non_decreasing number_of cs commented.rising from to first next.0 some at next.1 in
      ⊎_elim
      (λ (less : next.0.number < c.number). omega arith)
      (λ (le : c.number ≤ next.0.number).
      ⊎_elim
      (λ (more : to < i).
      let rise : next.0.number ≤ c.number = non_decreasing number_of cs commented.rising to i next.0 c more next.1 g in
      ⊎_elim
      (λ (less : first.number < c.number). less)
      (λ (same : c.number ≤ first.number). absurd (is.next first next.0 at next.1 (omega arith)))
      (cases_lt first.number c.number))
      (λ (end : i ≤ to).
      let here : i ≡ to = omega arith in
      let one : next.0 ≡ c = same_Some next.0 c (sym next.1 ∙ ap (slice_get cs) (sym here) ∙ g) in
      ⊎_elim
      (λ (less : first.number < c.number). less)
      (λ (same : c.number ≤ first.number).
      let number : next.0.number ≡ c.number = ap number_of one in
      absurd (is.next first next.0 at next.1 (omega arith)))
      (cases_lt first.number c.number))
      (cases_lt to i))
      (cases_lt next.0.number c.number)

  numbers_here : (i : ℕ) (c : CommentMark) → slice_get (take (to - from) (drop from cs)) i ≡ Some c
      → Contains cs c × (c.number ≡ first.number)
  numbers_here i c g =
      let r = part_source cs from to is.within i c g in
      let low : i < to - from = r.0 in
      (contains_from cs (from + i) c r.1, is.same (from + i) first c (omega arith) (omega arith) at r.1)

  pub part_in_range : (c : CommentMark) → Contains (take (to - from) (drop from cs)) c → c.mark.index < length operations
  part_in_range c held =
      let i = contains_at (take (to - from) (drop from cs)) c held in
      let o = commented.placed c (numbers_here i.0 c i.1).0 in
      slice_get_within operations c.mark.index o.0 o.1

  pub part_placed : ((i : ℕ) (c : CommentMark) → i < from → slice_get cs i ≡ Some c → c.number < first.number)
      → ArePlaced es operations (Comment first.number) (placed_of (take (to - from) (drop from cs)))
  part_placed before = record {
    placed =
        λ i p g.
        let c = placed_source (take (to - from) (drop from cs)) i p g in
        let here = numbers_here i c.0 c.1 in
        let o = commented.placed c.0 here.0 in (
          o.0,
          ap (λ (z : PlacedMark). slice_get operations z.index) (sym c.2) ∙ o.1,
          subst (λ (z : PlacedMark). IsPlaced es (Comment first.number) o.0 z) c.2
              (subst (λ n. IsPlaced es (Comment n) o.0 c.0.mark) here.1 o.2),
        );
    listed =
        λ j o less g of_key.
        let c = commented.every j first.number o g of_key in
        let i = contains_at cs c.0 c.1 in
        let number : c.0.number ≡ first.number = c.2 in
        let low : from ≤ i.0 =
        ⊎_elim
        (λ (early : i.0 < from). let under : c.0.number < first.number = before i.0 c.0 early i.1 in absurd (omega arith))
        (λ (ge : from ≤ i.0). ge)
        (cases_lt i.0 from) in
        let high : i.0 < to =
        ⊎_elim
        (λ (l : i.0 < to). l)
        (λ (late : to ≤ i.0). let over : first.number < c.0.number = numbers_behind i.0 c.0 late i.1 in absurd (omega arith))
        (cases_lt i.0 to) in
        let there = part_there cs from to is.within i.0 c.0 low high i.1 in
        (i.0 - from, (c.0.mark, placed_there (take (to - from) (drop from cs)) (i.0 - from) c.0 there, c.3));
  }
