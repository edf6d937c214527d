-- The runs of one comment more, which mostly has one mark.
use Rattle.std.proofs.Common.{◌≡◌, ◌↔◌, ℕ, ◌<◌, ◌≤◌, List, [], ◌∷◌, Some, None, length, sym, ap, refl, ◌∙◌, subst, arith, ⊎_elim}
use Rattle.std.specs.Bool.{IsTrue}
use Rattle.std.specs.List.{slice_get}
use Rattle.std.specs.List.Sorted.{IsPermutation}
use Rattle.std.specs.Option.{is_some}
use Rattle.std.proofs.lemmas.Bool.{cases_lt, false≢true}
use Rattle.std.proofs.lemmas.Option.{same_Some, slice_get_within}
use Rattle.change_ops.specs.Ids.{Less}
use Rattle.change_ops.specs.declared.attribute.Attribute.TheVariants.{Comment}
use Rattle.change_ops.specs.declared.attribute.Key.TheVariants as key
use Rattle.change_ops.specs.declared.id.OpId.{OpId}
use Rattle.change_ops.specs.declared.operation.Op.{Op}
use Rattle.char_sequence.proofs.Ids.{less_irrefl}
use Rattle.char_sequence.specs.declared.sequence.Element.{Element}
use Rattle.char_sequence.specs.Order.{Shows, IsAt}
use Rattle.mark_anchors.specs.Format.{Bears, added}
use Rattle.mark_anchors.specs.Marks.{AreMarks}
use Rattle.mark_anchors.specs.Placed.{ArePlaced, CoversPlace, IsGreatest}
use Rattle.mark_anchors.specs.CommentRuns.{AreAdded}
use Rattle.mark_anchors.specs.declared.comment_runs.CommentRun.{CommentRun}
use Rattle.mark_anchors.specs.declared.placed.PlacedMark.{PlacedMark}
use Rattle.mark_anchors.proofs.Deciding.{value_none, value_some}
use Rattle.mark_anchors.proofs.Gathering.{placed_permuted}
use Rattle.mark_anchors.proofs.KeyValues.{holds_from_value, one_comment}

the_one : (mark p : PlacedMark) (i : ℕ) → slice_get (mark ∷ []) i ≡ Some p → mark ≡ p
the_one mark p i g =
    let within : i < 1 = slice_get_within (mark ∷ []) i p g in
    let first : i ≡ 0 = omega arith in
    same_Some mark p (ap (slice_get (mark ∷ [])) (sym first) ∙ g)

greatest : (mark : PlacedMark) (place : ℕ) → CoversPlace mark place → IsGreatest (mark ∷ []) place 1 mark
greatest mark place covers = record {
  at = (0, refl);
  covers = covers;
  greatest = λ i p less g covers less_id. less_irrefl mark.id (subst (λ (z : PlacedMark). Less mark.id z.id) (sym (the_one mark p i g)) less_id);
}

-- the comment holds where its mark is, if that is added
pub bears_one : (ops : List Op) (es : List Element) (operations : List Op) (mark : PlacedMark) (n : ℕ) (o : Op) (e : OpId) (place : ℕ)
    → Shows es ops → AreMarks ops operations → ArePlaced es operations (key.Comment n) (mark ∷ []) → slice_get operations mark.index ≡ Some o → IsAt es e place
    → Bears ops e (Comment n) ↔ (IsTrue (is_some (added o)) × CoversPlace mark place)
bears_one ops es operations mark n o e place h are placed index at =
    ⊎_elim
    (λ (early : place < mark.start). outside (λ (covers : CoversPlace mark place). let begun : mark.start ≤ place = covers.0 in absurd (omega arith)))
    (λ (begun : mark.start ≤ place).
    ⊎_elim
    (λ (on : place < mark.end).
    let value = value_some ops es operations (mark ∷ []) (key.Comment n) e place h are placed at mark (greatest mark place (begun, on)) o index in
    let holds = holds_from_value ops (Comment n) e (one_comment n) (added o) value in
    (λ bears. (holds.1 bears, (begun, on)), λ r. holds.0 r.0))
    (λ (ended : mark.end ≤ place). outside (λ (covers : CoversPlace mark place). let on : place < mark.end = covers.1 in absurd (omega arith)))
    (cases_lt place mark.end))
    (cases_lt place mark.start)
  where
    outside : (CoversPlace mark place → ⊥) → Bears ops e (Comment n) ↔ (IsTrue (is_some (added o)) × CoversPlace mark place)
    outside not =
        let value = value_none ops es operations (mark ∷ []) (key.Comment n) e place h are placed at
        (λ i p less g covers. not (subst (λ z. CoversPlace z place) (sym (the_one mark p i g)) covers)) in
        let holds = holds_from_value ops (Comment n) e (one_comment n) None value in
        (λ bears. absurd (false≢true (holds.1 bears)), λ r. absurd (not r.1))

-- the order in which the comment's marks stand doesn't matter
pub added_permuted : (operations : List Op) (n : ℕ) (marks others : List PlacedMark) (old new : List CommentRun) → IsPermutation others marks
    → AreAdded operations n marks old new → AreAdded operations n others old new
added_permuted operations n marks others old new permuted are =
    let moved : (es : List Element) → ArePlaced es operations (key.Comment n) others → ArePlaced es operations (key.Comment n) marks =
    λ es placed. placed_permuted es operations (key.Comment n) (length operations) others marks permuted placed in
    record {
      orderly = are.orderly;
      up_to = are.up_to;
      kept = are.kept;
      held = λ es placed before. are.held es (moved es placed) before;
      covered = λ es placed. are.covered es (moved es placed);
    }
