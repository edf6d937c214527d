-- The elements are a function of the set of operations.
use Rattle.std.proofs.Common.{◌≡◌, ℕ, ◌<◌, ◌≤◌, Bool, true, false, List, Some, inl, inr, ◌⊎◌, sym, ap, ◌∙◌, subst, arith, ⊎_elim}
use Rattle.std.specs.List.{slice_get}
use Rattle.std.proofs.lemmas.Bool.{cases_Bool, cases_lt}
use Rattle.std.proofs.lemmas.Option.{same_Some}
use Rattle.change_ops.specs.declared.id.OpId.{OpId}
use Rattle.change_ops.specs.declared.operation.Op.{Op}
use Rattle.change_ops.specs.declared.operation.Op.TheVariants.{Insert}
use Rattle.char_sequence.specs.declared.sequence.Element.{Element}
use Rattle.char_sequence.specs.Tree.{Present, IsHidden, IsTree}
use Rattle.char_sequence.specs.Order.{Before, IsText, Shows, SameSet}
use Rattle.char_sequence.proofs.TreeLaws.{before_asym, before_kept}
use Rattle.char_sequence.proofs.Lists.{same_in_order, MembersOf}
use Rattle.char_sequence.proofs.Holding.{listed_ids}
use Rattle.char_sequence.proofs.Hiding.{hidden_same, same_removals_of_set, same_removals_sym}

-- a text of one list of the set is one of each other
pub text_of_set : (ops others : List Op) → SameSet ops others → (es : List Element) → IsText others es → IsText ops es
text_of_set ops others s es text = record {
  ordered = λ i j x y less g h. before_kept others ops (λ z p i. (i.0, s.back (Insert z p i.0) i.1)) (Some x.id) y.id (text.ordered i j x y less g h);
  listed = λ x p c i. text.listed x p c (s.forth (Insert x p c) i);
  inserted = λ i e g. let r = text.inserted i e g in (r.0, s.back (Insert e.id r.0 e.character) r.1);
  shown = λ i e g shows r. text.shown i e g shows (hidden_same ops others (same_removals_of_set ops others s) e.id r);
  hidden = λ i e g hides. hidden_same others ops (same_removals_sym ops others (same_removals_of_set ops others s)) e.id (text.hidden i e g hides);
}

pub same_elements : (a b : Element) → a.id ≡ b.id → a.character ≡ b.character → a.visible ≡ b.visible → a ≡ b
same_elements a b e f g =
    let mk : OpId → ℕ → Bool → Element = λ i c v. record { id = i; character = c; visible = v } in
    ap (λ i. mk i a.character a.visible) e ∙ ap (λ c. mk b.id c a.visible) f ∙ ap (λ v. mk b.id b.character v) g

same_visible : (ops : List Op) (es fs : List Element) → IsText ops es → IsText ops fs → (i j : ℕ) (a b : Element) → slice_get es i ≡ Some a → slice_get fs j ≡ Some b → a.id ≡ b.id → a.visible ≡ b.visible
same_visible ops es fs t u i j a b g h e =
    ⊎_elim
    (λ (x : a.visible ≡ true).
    ⊎_elim
    (λ (y : b.visible ≡ true). x ∙ sym y)
    (λ (y : b.visible ≡ false). absurd (t.shown i a g x (subst (λ z. IsHidden ops z) (sym e) (u.hidden j b h y))))
    (cases_Bool b.visible))
    (λ (x : a.visible ≡ false).
    ⊎_elim
    (λ (y : b.visible ≡ true). absurd (u.shown j b h y (subst (λ z. IsHidden ops z) e (t.hidden i a g x))))
    (λ (y : b.visible ≡ false). x ∙ sym y)
    (cases_Bool b.visible))
    (cases_Bool a.visible)

members : (ops : List Op) (es fs : List Element) → IsText ops es → IsText ops fs → MembersOf es fs
members ops es fs t u i a g =
    let r = t.inserted i a g in
    let at = u.listed a.id r.0 a.character r.1 in
    let same : at.1.0 ≡ a = same_elements at.1.0 a at.1.2 at.1.3 (sym (same_visible ops es fs t u i at.0 a at.1.0 g at.1.1 (sym at.1.2))) in
    (at.0, at.1.1 ∙ ap Some same)

pub one_text : (ops : List Op) → IsTree ops → (es fs : List Element) → IsText ops es → IsText ops fs → es ≡ fs
one_text ops tree es fs t u =
    same_in_order (λ x y. Before ops (Some x.id) y.id) (λ a b h k. before_asym ops tree a.id b.id h k) es fs t.ordered u.ordered (members ops es fs t u) (members ops fs es u t)

pub one_text_of_set : (first second : List Element) (ops others : List Op) → Shows first ops → Shows second others → SameSet ops others → first ≡ second
one_text_of_set first second ops others h k s = one_text ops h.tree first second h.text (text_of_set ops others s second k.text)

-- of two characters one stands before the other
pub before_total : (ops : List Op) (es : List Element) → IsText ops es → (a b : OpId) → Present ops a → Present ops b → (a ≡ b) ⊎ (Before ops (Some a) b ⊎ Before ops (Some b) a)
before_total ops es text a b pa pb =
    let r = listed_ids ops es text a pa.0 pa.1 in
    let q = listed_ids ops es text b pb.0 pb.1 in
    ⊎_elim
    (λ (l : r.0 < q.0). inr (inl (subst (λ z. Before ops (Some z) b) r.1.2 (subst (λ z. Before ops (Some r.1.0.id) z) q.1.2 (text.ordered r.0 q.0 r.1.0 q.1.0 l r.1.1 q.1.1)))))
    (λ (ge : q.0 ≤ r.0).
    ⊎_elim
    (λ (l : q.0 < r.0). inr (inr (subst (λ z. Before ops (Some z) a) q.1.2 (subst (λ z. Before ops (Some q.1.0.id) z) r.1.2 (text.ordered q.0 r.0 q.1.0 r.1.0 l q.1.1 r.1.1)))))
    (λ (le : r.0 ≤ q.0).
    let same : r.0 ≡ q.0 = omega arith in
    let one : r.1.0 ≡ q.1.0 = same_Some r.1.0 q.1.0 (sym r.1.1 ∙ ap (slice_get es) same ∙ q.1.1) in
    inl (sym r.1.2 ∙ ap (λ e. e.id) one ∙ q.1.2))
    (cases_lt q.0 r.0))
    (cases_lt r.0 q.0)
