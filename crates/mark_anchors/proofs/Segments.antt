-- The runs of segments, one run more at a time.
use Rattle.std.proofs.Common.{◌≡◌, ℕ, suc, ◌+◌, ◌<◌, ◌≤◌, List, [], ◌∷◌, ◌++◌, Some, true, false, length, set, take, get_or, sym, ap, refl, ◌∙◌, subst, arith, ⊎_elim}
use Rattle.std.specs.Arc.{arc_slice_items}
use Rattle.std.specs.List.{slice_get}
use Rattle.std.specs.List.Sorted.{IsStrictlyIncreasing}
use Rattle.std.specs.declared.sync.ArcSlice.{ArcSlice}
use Rattle.std.specs.declared.vec.Vec.{Vec}
use Rattle.std.proofs.Math.Seq.{take-suc}
use Rattle.std.proofs.lemmas.Bool.{cases_lt}
use Rattle.std.proofs.lemmas.List.{length_push}
use Rattle.std.proofs.lemmas.Option.{same_Some, slice_get_within}
use Rattle.char_sequence.proofs.Lists.{slice_get_set_same, slice_get_set_other}
use Rattle.mark_anchors.specs.CommentRuns.{HasPlace, has_place, numbers_at}
use Rattle.mark_anchors.specs.CommentLists.{AreEmpty, AreSegments, vec_runs}
use Rattle.mark_anchors.specs.KeyMarks.{IsCountBelow, IsCountUpTo}
use Rattle.mark_anchors.specs.declared.comment_runs.CommentRun.{CommentRun}
use Rattle.mark_anchors.proofs.Lists.{item_at, pushed_at, read_at}
use Rattle.mark_anchors.proofs.Running.{numbers_here, numbers_past, place_cases}

-- ---- the numbers at a place, with a run more at the end
pub numbers_push : (runs others : List CommentRun) (run : CommentRun) (place : ℕ) → numbers_at runs place ≡ numbers_at others place → numbers_at (runs ++ run ∷ []) place ≡ numbers_at (others ++ run ∷ []) place
numbers_push runs others run place same = appended runs ∙ ap (λ (l : List ℕ). l ++ numbers_at (run ∷ []) place) same ∙ sym (appended others)
  where
    appended : (xs : List CommentRun) → numbers_at (xs ++ run ∷ []) place ≡ numbers_at xs place ++ numbers_at (run ∷ []) place
    appended [] = refl
    appended (x ∷ xs) =
        ⊎_elim
        (λ (yes : (has_place x place ≡ true) × HasPlace x place).
        numbers_here x (xs ++ run ∷ []) place yes.0 ∙ ap (λ (l : List ℕ). x.number ∷ l) (appended xs) ∙ ap (λ (l : List ℕ). l ++ numbers_at (run ∷ []) place) (sym (numbers_here x xs place yes.0)))
        (λ (no : (has_place x place ≡ false) × (HasPlace x place → ⊥)).
        numbers_past x (xs ++ run ∷ []) place no.0 ∙ appended xs ∙ ap (λ (l : List ℕ). l ++ numbers_at (run ∷ []) place) (sym (numbers_past x xs place no.0)))
        (place_cases x place)

pub numbers_push_past : (runs : List CommentRun) (run : CommentRun) (place : ℕ) → (HasPlace run place → ⊥) → numbers_at (runs ++ run ∷ []) place ≡ numbers_at runs place
numbers_push_past [] run place not =
    ⊎_elim
    (λ (yes : (has_place run place ≡ true) × HasPlace run place). absurd (not yes.1))
    (λ (no : (has_place run place ≡ false) × (HasPlace run place → ⊥)). numbers_past run [] place no.0)
    (place_cases run place)
numbers_push_past (x ∷ xs) run place not =
    ⊎_elim
    (λ (yes : (has_place x place ≡ true) × HasPlace x place).
    numbers_here x (xs ++ run ∷ []) place yes.0 ∙ ap (λ (l : List ℕ). x.number ∷ l) (numbers_push_past xs run place not) ∙ sym (numbers_here x xs place yes.0))
    (λ (no : (has_place x place ≡ false) × (HasPlace x place → ⊥)).
    numbers_past x (xs ++ run ∷ []) place no.0 ∙ numbers_push_past xs run place not ∙ sym (numbers_past x xs place no.0))
    (place_cases x place)

-- ---- a run has places of the segments from that of its first place to that of its last one
index_up_to : (cuts : List ℕ) (place from i first : ℕ) → from ≤ place → IsCountUpTo cuts place i → IsCountUpTo cuts from first → first ≤ length cuts → first ≤ i
index_up_to cuts place from i first le here start within =
    ⊎_elim
    (λ (less : i < first).
    let cut = item_at cuts i (omega arith) in
    let begun : cut.0 ≤ from = (start i cut.0 cut.1).0 less in
    let past : i < i = (here i cut.0 cut.1).1 (omega arith) in
    absurd (omega arith))
    (λ (ge : first ≤ i). ge)
    (cases_lt i first)

index_below : (cuts : List ℕ) (place to i last : ℕ) → place < to → i ≤ length cuts → IsCountUpTo cuts place i → IsCountBelow cuts to last → i ≤ last
index_below cuts place to i last less within here end =
    ⊎_elim
    (λ (low : last < i).
    let cut = item_at cuts last (omega arith) in
    let begun : cut.0 ≤ place = (here last cut.0 cut.1).0 low in
    let past : last < last = (end last cut.0 cut.1).1 (omega arith) in
    absurd (omega arith))
    (λ (ge : i ≤ last). ge)
    (cases_lt last i)

-- the segments below `upto` have the runs with one more, the others those without
pub record AreAdded {A : Type 0} (runs : List CommentRun) (run : CommentRun) (cuts : List ℕ) (upto : ℕ) (segments : List (Vec CommentRun A)) : Type 0 where
  pub more : (i place : ℕ) (s : Vec CommentRun A) → i < upto → slice_get segments i ≡ Some s → IsCountUpTo cuts place i → numbers_at (vec_runs s) place ≡ numbers_at (runs ++ run ∷ []) place
  pub still : (i place : ℕ) (s : Vec CommentRun A) → upto ≤ i → slice_get segments i ≡ Some s → IsCountUpTo cuts place i → numbers_at (vec_runs s) place ≡ numbers_at runs place

module _ {A : Type 0} (runs : List CommentRun) (run : CommentRun) (cuts : List ℕ) (segments : List (Vec CommentRun A)) where
  pub added_none : (first : ℕ) → IsCountUpTo cuts run.from first → first ≤ length cuts → AreSegments vec_runs runs cuts segments → AreAdded runs run cuts first segments
  added_none first start within are = record {
    more =
        λ i place s less at here.
        are.same i place s at here ∙ sym (numbers_push_past runs run place (λ has. let reached : first ≤ i = index_up_to cuts place run.from i first has.0 here start within in absurd (omega arith)));
    still = λ i place s ge at here. are.same i place s at here;
  }

  pub added_more : (j : ℕ) (old new : Vec CommentRun A) → slice_get segments j ≡ Some old → new.items ≡ old.items ++ run ∷ [] → AreAdded runs run cuts j segments → AreAdded runs run cuts (j + 1) (set segments j new)
  added_more j old new at items are = record {
    more =
        λ i place s less g here.
        ⊎_elim
        (λ (low : i < j). are.more i place s low (sym (slice_get_set_other segments j i new (λ same. absurd (omega arith))) ∙ g) here)
        (λ (ge : j ≤ i).
        let same : i ≡ j = omega arith in
        let within : j < length segments = slice_get_within segments j old at in
        let is : new ≡ s = same_Some new s (sym (slice_get_set_same segments j new within) ∙ ap (slice_get (set segments j new)) (sym same) ∙ g) in
        let before : numbers_at (vec_runs old) place ≡ numbers_at runs place = are.still j place old (omega arith) at (subst (IsCountUpTo cuts place) same here) in
        ap (λ (v : Vec CommentRun A). numbers_at (vec_runs v) place) (sym is) ∙ ap (λ (l : List CommentRun). numbers_at l place) items ∙ numbers_push old.items runs run place before)
        (cases_lt i j);
    still =
        λ i place s ge g here.
        are.still i place s (omega arith) (sym (slice_get_set_other segments j i new (λ same. absurd (omega arith))) ∙ g) here;
  }

  pub added_all : (last upto : ℕ) → IsCountBelow cuts run.to last → last + 1 ≤ upto → IsStrictlyIncreasing cuts → length segments ≡ length cuts + 1 → AreAdded runs run cuts upto segments → AreSegments vec_runs (runs ++ run ∷ []) cuts segments
  added_all last upto end all rising sized are = record {
    rising = rising;
    sized = sized;
    same =
        λ i place s at here.
        ⊎_elim
        (λ (less : i < upto). are.more i place s less at here)
        (λ (ge : upto ≤ i).
        let within : i < length segments = slice_get_within segments i s at in
        are.still i place s ge at here ∙ sym (numbers_push_past runs run place (λ has. let reached : i ≤ last = index_below cuts place run.to i last has.1 (omega arith) here end in absurd (omega arith))))
        (cases_lt i upto);
  }

-- ---- from no run to all of them
pub segments_none : {A : Type 0} (cuts : List ℕ) (segments : List (Vec CommentRun A)) → IsStrictlyIncreasing cuts → length segments ≡ length cuts + 1 → AreEmpty segments → AreSegments vec_runs [] cuts segments
segments_none {A} cuts segments rising sized empty = record {
  rising = rising;
  sized = sized;
  same = λ i place s at here. ap (λ (l : List CommentRun). numbers_at l place) (empty i s at);
}

pub first_more : (runs : List CommentRun) (k : ℕ) (run : CommentRun) → run ≡ get_or runs k run → k < length runs → take k runs ++ run ∷ [] ≡ take (k + 1) runs
first_more runs k run is within =
    let next : suc k ≡ k + 1 = omega arith in
    ap (λ z. take k runs ++ z ∷ []) is ∙ sym (take-suc runs k run within) ∙ ap (λ n. take n runs) next

-- ---- the first `count` segments, shared
pub record AreShared {A B : Type 0} (count : ℕ) (segments : List (Vec CommentRun A)) (shared : List (ArcSlice CommentRun B)) : Type 0 where
  pub sized : length shared ≡ count
  pub same : (i : ℕ) (s : ArcSlice CommentRun B) → slice_get shared i ≡ Some s → (v : Vec CommentRun A) × (slice_get segments i ≡ Some v) × (arc_slice_items s ≡ vec_runs v)

pub shared_more : {A B : Type 0} (k : ℕ) (segments : List (Vec CommentRun A)) (shared more : List (ArcSlice CommentRun B)) (v : Vec CommentRun A) (s : ArcSlice CommentRun B) → slice_get segments k ≡ Some v → arc_slice_items s ≡ vec_runs v → more ≡ shared ++ s ∷ [] → AreShared k segments shared → AreShared (k + 1) segments more
shared_more {A} {B} k segments shared more v s at is items are = record {
  sized = ap length items ∙ length_push shared s ∙ ap (λ n. n + 1) are.sized;
  same =
      λ i t g.
      ⊎_elim
      (λ (old : slice_get shared i ≡ Some t). are.same i t old)
      (λ (new : (i ≡ length shared) × (s ≡ t)).
      (v, ap (slice_get segments) (new.0 ∙ are.sized) ∙ at, ap arc_slice_items (sym new.1) ∙ is))
      (pushed_at shared s i t (subst (λ (l : List (ArcSlice CommentRun B)). slice_get l i ≡ Some t) items g));
}

pub shared_all : {A B : Type 0} (segments : List (Vec CommentRun A)) (shared : List (ArcSlice CommentRun B)) (count : ℕ) → count ≡ length segments → AreShared count segments shared → (runs : List CommentRun) (cuts : List ℕ) → AreSegments vec_runs runs cuts segments → AreSegments arc_slice_items runs cuts shared
shared_all segments shared count all are runs cuts of = record {
  rising = of.rising;
  sized = are.sized ∙ all ∙ of.sized;
  same =
      λ i place s at here.
      let r = are.same i s at in
      ap (λ (l : List CommentRun). numbers_at l place) r.2 ∙ of.same i place r.0 r.1 here;
}

-- ---- what is read from the segment of a place
pub segment_numbers : {A B : Type 0} (runs : List CommentRun) (cuts read : List ℕ) (segments : List (ArcSlice CommentRun A)) (place i : ℕ) (s : ArcSlice CommentRun A) (copy : ArcSlice CommentRun B) → AreSegments arc_slice_items runs cuts segments → read ≡ cuts → IsCountUpTo read place i → i ≤ length read → s ≡ get_or segments i s → arc_slice_items copy ≡ arc_slice_items s → numbers_at (arc_slice_items copy) place ≡ numbers_at runs place
segment_numbers runs cuts read segments place i s copy are is here within at copied =
    let sized : length segments ≡ length cuts + 1 = are.sized in
    let size : length read ≡ length cuts = ap length is in
    ap (λ (l : List CommentRun). numbers_at l place) copied ∙ are.same i place s (read_at segments i s at (omega arith)) (subst (λ (l : List ℕ). IsCountUpTo l place i) is here)
