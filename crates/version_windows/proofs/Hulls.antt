-- The hull of the places that operations touch, one after the other.
use Rattle.std.proofs.Common.{◌≡◌, ℕ, ◌+◌, ◌<◌, ◌≤◌, min, max, List, Some, length, sym, ap, subst, ◌∙◌, arith, ⊎_elim}
use Rattle.std.specs.List.{slice_get}
use Rattle.std.proofs.lemmas.Bool.{cases_lt}
use Rattle.std.proofs.lemmas.Option.{same_Some, slice_get_within}
use Rattle.change_ops.specs.declared.operation.Op.{Op}
use Rattle.char_sequence.specs.Held.{Sequence, HoldsRemovals}
use Rattle.mark_places.specs.declared.range.PlaceRange.{PlaceRange}
use Rattle.span_flatten.proofs.Showing.{at_contains}
use Rattle.version_laws.specs.Touched.{TouchesWithin}
use Rattle.version_windows.specs.Touches.{AllTouchWithin}
use Rattle.version_windows.proofs.Touching.{touches_wider}

-- whichever operations have the removals that the sequence holds, this one touches places of the range alone
abbrev pub LiesIn : Sequence → PlaceRange → Op → Type 0
LiesIn sequence range o =
    (ops : List Op) → HoldsRemovals sequence.removals ops → TouchesWithin ops sequence.elements range.low range.high o

-- the range is one of the text, and those before an index touch places of it alone
pub record IsHull (sequence : Sequence) (added : List Op) (index : ℕ) (range : PlaceRange) : Type 0 where
  pub order : range.low ≤ range.high
  pub within : range.high ≤ length sequence.elements
  pub touched : (k : ℕ) (o : Op) → k < index → slice_get added k ≡ Some o → LiesIn sequence range o

module _ (sequence : Sequence) (added : List Op) where
  pub hull_first : (first : Op) (range : PlaceRange) → slice_get added 0 ≡ Some first → LiesIn sequence range first → range.low ≤ range.high
      → range.high ≤ length sequence.elements → IsHull sequence added 1 range
  hull_first first range is lies order within = record {
    order = order;
    within = within;
    touched =
        λ k o less g.
        let start : k ≡ 0 = omega arith in
        let same : first ≡ o = same_Some first o (sym is ∙ ap (slice_get added) (sym start) ∙ g) in
        subst (LiesIn sequence range) same lies;
  }

  pub hull_more : (index : ℕ) (range other both : PlaceRange) (next : Op) → IsHull sequence added index range → slice_get added index ≡ Some next
      → LiesIn sequence other next → other.low ≤ other.high → other.high ≤ length sequence.elements → both.low ≡ min range.low other.low → both.high ≡ max range.high other.high
      → IsHull sequence added (index + 1) both
  hull_more index range other both next are is lies order within low high =
      let was : range.low ≤ range.high = are.order in
      let old : range.high ≤ length sequence.elements = are.within in
      record {
        order = omega arith;
        within = omega arith;
        touched =
            λ k o less g ops held.
            ⊎_elim
            (λ (earlier : k < index).
            touches_wider sequence.elements range.low range.high both.low both.high (omega arith) (omega arith) ops o (are.touched k o earlier g ops held))
            (λ (last : index ≤ k).
            let here : k ≡ index = omega arith in
            let same : next ≡ o = same_Some next o (sym is ∙ ap (slice_get added) (sym here) ∙ g) in
            touches_wider sequence.elements other.low other.high both.low both.high (omega arith) (omega arith) ops o
            (subst (TouchesWithin ops sequence.elements other.low other.high) same (lies ops held)))
            (cases_lt k index);
      }

  pub hull_all : (index : ℕ) (range : PlaceRange) → length added ≤ index → IsHull sequence added index range → AllTouchWithin sequence added range
  hull_all index range all are =
      λ ops held o is.
      let at = at_contains added o is in
      let less : at.0 < length added = slice_get_within added at.0 o at.1 in
      are.touched at.0 o (omega arith) at.1 ops held
