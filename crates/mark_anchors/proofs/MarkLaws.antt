-- The mark operations of more operations.
use Rattle.std.proofs.Common.{◌≡◌, true, List, [], ◌∷◌, ◌++◌, sym, subst, arith, ⊎_elim}
use Rattle.std.specs.List.{Contains}
use Rattle.std.proofs.lemmas.List.Elements.{Contains-append_left, Contains-push, Contains-push_cases}
use Rattle.change_ops.specs.declared.operation.Op.{Op}
use Rattle.change_ops.specs.Operations.{is_mark}
use Rattle.mark_anchors.specs.Marks.{AreMarks}

pub marks_none : AreMarks [] []
marks_none = record { held = λ o c. c; marking = λ o (i, within, is). absurd (omega arith); listed = λ o c is. c }

-- one mark operation more
pub marks_push : (ops marks : List Op) (op : Op) → is_mark op ≡ true → AreMarks ops marks → AreMarks (ops ++ op ∷ []) (marks ++ op ∷ [])
marks_push ops marks op mark m = record {
  held =
      λ o c.
      ⊎_elim
      (λ (old : Contains marks o). Contains-append_left ops (op ∷ []) o (m.held o old))
      (λ (new : op ≡ o). subst (λ x. Contains (ops ++ op ∷ []) x) new (Contains-push ops op))
      (Contains-push_cases marks op o c);
  marking =
      λ o c.
      ⊎_elim
      (λ (old : Contains marks o). m.marking o old)
      (λ (new : op ≡ o). subst (λ x. is_mark x ≡ true) new mark)
      (Contains-push_cases marks op o c);
  listed =
      λ o c is.
      ⊎_elim
      (λ (old : Contains ops o). Contains-append_left marks (op ∷ []) o (m.listed o old is))
      (λ (new : op ≡ o). subst (λ x. Contains (marks ++ op ∷ []) x) new (Contains-push marks op))
      (Contains-push_cases ops op o c);
}

-- an operation that is no mark leaves the marks
pub marks_other : (ops marks : List Op) (op : Op) → (is_mark op ≡ true → ⊥) → AreMarks ops marks → AreMarks (ops ++ op ∷ []) marks
marks_other ops marks op other m = record {
  held = λ o c. Contains-append_left ops (op ∷ []) o (m.held o c);
  marking = m.marking;
  listed =
      λ o c is.
      ⊎_elim
      (λ (old : Contains ops o). m.listed o old is)
      (λ (new : op ≡ o). absurd (other (subst (λ x. is_mark x ≡ true) (sym new) is)))
      (Contains-push_cases ops op o c);
}
