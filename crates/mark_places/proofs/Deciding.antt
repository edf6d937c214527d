-- Chosen marks give the characters between two places their formats.
use Rattle.std.proofs.Common.{◌≡◌, ℕ, ◌<◌, ◌≤◌, true, List, ◌++◌, Some, None, sym, refl, subst, arith, ⊎_elim, ◌⊎◌}
use Rattle.std.specs.List.{Contains, filter}
use Rattle.std.proofs.lemmas.Bool.{true≢false}
use Rattle.std.proofs.lemmas.List.Elements.{Contains-append_cases, Contains-append_left, Contains-append_right}
use Rattle.change_ops.specs.Operations.{id_of, is_edit, is_mark, key_of}
use Rattle.change_ops.specs.declared.id.OpId.{OpId}
use Rattle.change_ops.specs.declared.attribute.Key.{Key}
use Rattle.change_ops.specs.declared.attribute.Attribute.{Attribute}
use Rattle.change_ops.specs.declared.operation.Op.{Op}
use Rattle.change_ops.specs.declared.operation.Op.TheVariants.{Insert, Remove, AddMark, RemoveMark, Revive}
use Rattle.char_sequence.specs.declared.sequence.Element.{Element}
use Rattle.char_sequence.specs.Order.{IsAt, Shows, IsText}
use Rattle.char_sequence.proofs.Hiding.{SameRemovals, same_removals_sym, hidden_same}
use Rattle.char_sequence.proofs.Ids.{less_trans}
use Rattle.char_sequence.proofs.TreeLaws.{Grows, before_kept, within_kept}
use Rattle.mark_anchors.specs.Format.{Touches, Decides, Bears, IsFormat}
use Rattle.mark_anchors.specs.Formatting.{Format}
use Rattle.mark_anchors.specs.Marks.{AreMarks}
use Rattle.mark_anchors.proofs.Deciding.{touches_from_place, place_from_touches, of_key_from_touches, mark_from_key}
use Rattle.mark_anchors.proofs.FormatLaws.{touches_kept, format_carried}
use Rattle.mark_places.specs.Chosen.{AreChosen, IsOutside, IsOverruled}
use Rattle.mark_places.proofs.Filters.{kept_was, kept_passes, is_kept}
use Rattle.mark_places.proofs.KeyCases.{one_key}

no_edit_marks : (o : Op) → is_edit o ≡ true → is_mark o ≡ true → ⊥
no_edit_marks (Insert id parent character) edit mark = true≢false (sym mark)
no_edit_marks (Remove id target) edit mark = true≢false (sym mark)
no_edit_marks (AddMark id attribute start end) edit mark = true≢false (sym edit)
no_edit_marks (RemoveMark id key start end) edit mark = true≢false (sym edit)
no_edit_marks (Revive id removal) edit mark = true≢false (sym mark)

-- the edits among the operations, and some marks
abbrev pub with_marks : List Op → List Op → List Op
with_marks ops chosen = filter is_edit ops ++ chosen

module _ (es : List Element) (ops marks chosen : List Op) (h : Shows es ops) (are : AreMarks ops marks) (held : (o : Op) → Contains chosen o → Contains marks o) where
  was : (o : Op) → Contains (with_marks ops chosen) o → Contains ops o
  was o c =
      ⊎_elim
      (λ (edit : Contains (filter is_edit ops) o). kept_was is_edit ops o edit)
      (λ (mark : Contains chosen o). are.held o (held o mark))
      (Contains-append_cases (filter is_edit ops) chosen o c)

  still : (o : Op) → is_edit o ≡ true → Contains ops o → Contains (with_marks ops chosen) o
  still o edit c = Contains-append_left (filter is_edit ops) chosen o (is_kept is_edit ops o edit c)

  less : Grows (with_marks ops chosen) ops
  less x p i = (i.0, was (Insert x p i.0) i.1)

  more : Grows ops (with_marks ops chosen)
  more x p i = (i.0, still (Insert x p i.0) refl i.1)

  same_removals : SameRemovals ops (with_marks ops chosen)
  same_removals = record {
    removes = λ r x. (still (Remove r x) refl, was (Remove r x));
    back = λ r. (λ b. (b.0, still (Revive b.0 r) refl b.1), λ b. (b.0, was (Revive b.0 r) b.1));
  }

  others_text : IsText (with_marks ops chosen) es
  others_text = record {
    ordered = λ i j x y lt g k. before_kept ops (with_marks ops chosen) more (Some x.id) y.id (h.text.ordered i j x y lt g k);
    listed = λ x p c i. h.text.listed x p c (was (Insert x p c) i);
    inserted = λ i e g. let r = h.text.inserted i e g in (r.0, still (Insert e.id r.0 e.character) refl r.1);
    shown = λ i e g shows r. h.text.shown i e g shows (hidden_same (with_marks ops chosen) ops (same_removals_sym ops (with_marks ops chosen) same_removals) e.id r);
    hidden = λ i e g hides. hidden_same ops (with_marks ops chosen) same_removals e.id (h.text.hidden i e g hides);
  }

  pub others_shown : Shows es (with_marks ops chosen)
  others_shown = record {
    tree = record {
      one = λ x p q i j. h.tree.one x p q (less x p i) (less x q j);
      grows = λ x p i. h.tree.grows x p (less x (Some p) i);
      rooted = λ x p i. within_kept ops (with_marks ops chosen) more None p (h.tree.rooted x p (less x p i));
    };
    distinct = λ o p a b same. h.distinct o p (was o a) (was p b) same;
    named = λ o x c names. let there = h.named o x (was o c) names in (there.0, more x there.0 there.1);
    removals = λ o r c names. let there = h.removals o r (was o c) names in (there.0, still (Remove r there.0) refl there.1);
    text = others_text;
  }

  pub others_marks : AreMarks (with_marks ops chosen) chosen
  others_marks = record {
    held = λ o c. Contains-append_right (filter is_edit ops) chosen o c;
    marking = λ o c. are.marking o (held o c);
    listed =
        λ o c mark.
        ⊎_elim
        (λ (edit : Contains (filter is_edit ops) o). absurd (no_edit_marks o (kept_passes is_edit ops o edit) mark))
        (λ (is : Contains chosen o). is)
        (Contains-append_cases (filter is_edit ops) chosen o c);
  }

  touches_less : (key : Key) (e : OpId) (o : Op) → Touches (with_marks ops chosen) key e o → Touches ops key e o
  touches_less key e o t = touches_kept (with_marks ops chosen) ops less key e o t

  touches_more : (key : Key) (e : OpId) (o : Op) → Touches ops key e o → Touches (with_marks ops chosen) key e o
  touches_more key e o t = touches_kept ops (with_marks ops chosen) more key e o t

  module _ (low high : ℕ) (are_chosen : AreChosen es low high marks chosen) (e : OpId) (place : ℕ) (at : IsAt es e place) (from : low ≤ place) (to : place < high) where
    -- a mark outside touches no character between the places
    not_outside : (key : Key) (o : Op) → IsOutside es low high o → Touches ops key e o → ⊥
    not_outside key o outside touches =
        let c = place_from_touches ops es h key o outside.first outside.last place e outside.lies at touches in
        let begun : outside.first ≤ place = c.0 in
        let ongoing : place < outside.last = c.1 in
        ⊎_elim
        (λ (before : place < outside.first). omega arith)
        (λ (behind : outside.last ≤ place). omega arith)
        (outside.apart place from to)

    -- the one that overrules another touches each of them
    overrules : (key : Key) (o : Op) (over : IsOverruled es low high chosen o) → Touches ops key e o → Touches ops key e over.by
    overrules key o over touches =
        let same : over.key ≡ key = one_key o over.key key over.of_key (of_key_from_touches ops key e o touches) in
        let begun : over.first ≤ low = over.covers.0 in
        let ongoing : high ≤ over.last = over.covers.1 in
        subst (λ k. Touches ops k e over.by) same
        (touches_from_place ops es h over.key over.by over.first over.last place e over.by_key over.lies at (omega arith) (omega arith))

    in_marks : (key : Key) (o : Op) → Contains ops o → Touches ops key e o → Contains marks o
    in_marks key o c touches = are.listed o c (mark_from_key key o (of_key_from_touches ops key e o touches))

    -- the mark that decides is chosen
    decides_back : (key : Key) (o : Op) → Decides ops key e o → Decides (with_marks ops chosen) key e o
    decides_back key o d = record {
      held =
          ⊎_elim
          (λ (is : Contains chosen o). Contains-append_right (filter is_edit ops) chosen o is)
          (λ (r : IsOutside es low high o ⊎ IsOverruled es low high chosen o).
          ⊎_elim
          (λ (outside : IsOutside es low high o). absurd (not_outside key o outside d.touches))
          (λ (over : IsOverruled es low high chosen o).
          absurd (d.greatest over.by (are.held over.by (held over.by over.among)) (overrules key o over d.touches) over.greater))
          r)
          (are_chosen.others o (in_marks key o d.held d.touches));
      touches = touches_more key e o d.touches;
      greatest = λ p c touches greater. d.greatest p (was p c) (touches_less key e p touches) greater;
    }

    decides_forth : (key : Key) (o : Op) → Decides (with_marks ops chosen) key e o → Decides ops key e o
    decides_forth key o d = record {
      held = was o d.held;
      touches = touches_less key e o d.touches;
      greatest =
          λ p c touches greater.
          ⊎_elim
          (λ (is : Contains chosen p). d.greatest p (Contains-append_right (filter is_edit ops) chosen p is) (touches_more key e p touches) greater)
          (λ (r : IsOutside es low high p ⊎ IsOverruled es low high chosen p).
          ⊎_elim
          (λ (outside : IsOutside es low high p). not_outside key p outside touches)
          (λ (over : IsOverruled es low high chosen p).
          d.greatest over.by (Contains-append_right (filter is_edit ops) chosen over.by over.among) (touches_more key e over.by (overrules key p over touches))
          (less_trans (id_of o) (id_of p) (id_of over.by) greater over.greater))
          r)
          (are_chosen.others p (in_marks key p c touches));
    }

    there : (a : Attribute) → Bears (with_marks ops chosen) e a → Bears ops e a
    there a b = (b.0, decides_forth (key_of a) b.0 b.1, b.2)

    back : (a : Attribute) → Bears ops e a → Bears (with_marks ops chosen) e a
    back a b = (b.0, decides_back (key_of a) b.0 b.1, b.2)

    pub one_format : (f : Format) → IsFormat (with_marks ops chosen) e f → IsFormat ops e f
    one_format = format_carried (with_marks ops chosen) ops e e there back
