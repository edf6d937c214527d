-- The place of an insertion, as the walk over the hidden characters finds it.
use Rattle.std.proofs.Common.{◌≡◌, ℕ, ◌+◌, ◌<◌, ◌≤◌, ◌⊎◌, ⊎_elim, inl, inr, true, false, List, length, Some, refl, sym, ◌∙◌, subst, arith}
use Rattle.std.specs.List.{slice_get}
use Rattle.std.proofs.lemmas.Bool.{cases_eq, cases_lt, false≢true}
use Rattle.std.proofs.lemmas.Option.{same_Some, slice_get_within}
use Rattle.change_ops.specs.declared.operation.Op.{Op}
use Rattle.char_sequence.specs.declared.sequence.Element.{Element}
use Rattle.insert_place.specs.Place.{BearsEnd, AreHidden, EndsBefore, IsInsertPlace}

-- what the walk has seen up to a place: hidden characters, and the last one behind which a mark ends
pub record Seen (es : List Element) (marks : List Op) (caret place seen : ℕ) : Type 0 where
  pub from : caret ≤ place
  pub within : place ≤ seen
  pub hidden : AreHidden es caret seen
  pub bears : (place ≡ caret) ⊎ EndsBefore es marks place
  pub none : (i : ℕ) (e : Element) → place ≤ i → i < seen → slice_get es i ≡ Some e → BearsEnd marks e.id → ⊥

pub seen_first : (es : List Element) (marks : List Op) (caret : ℕ) → Seen es marks caret caret caret
seen_first es marks caret = record {
  from = omega arith;
  within = omega arith;
  hidden = λ i e low high at. absurd (omega (arith, low, high));
  bears = inl refl;
  none = λ i e low high at bears. absurd (omega (arith, low, high));
}

hidden_more : (es : List Element) (caret seen : ℕ) (e : Element) → AreHidden es caret seen → slice_get es seen ≡ Some e → e.visible ≡ false → AreHidden es caret (seen + 1)
hidden_more es caret seen e hidden at unseen i x low high there =
    ⊎_elim
    (λ (here : i ≡ seen).
    let same : x ≡ e = same_Some x e (sym there ∙ subst (λ k. slice_get es k ≡ Some e) (sym here) at) in
    subst (λ (y : Element). y.visible ≡ false) (sym same) unseen)
    (λ (apart : i ≡ seen → ⊥). hidden i x low (omega (arith, high, apart)) there)
    (cases_eq i seen)

-- a hidden character behind which no mark ends, and one behind which one does
pub seen_past : (es : List Element) (marks : List Op) (caret place seen : ℕ) (e : Element) → Seen es marks caret place seen → slice_get es seen ≡ Some e → e.visible ≡ false → (BearsEnd marks e.id → ⊥) → Seen es marks caret place (seen + 1)
seen_past es marks caret place seen e s at unseen other = record {
  from = s.from;
  within = omega (arith, s.within);
  hidden = hidden_more es caret seen e s.hidden at unseen;
  bears = s.bears;
  none = λ i x low high there bears.
      ⊎_elim
      (λ (here : i ≡ seen).
      let same : x ≡ e = same_Some x e (sym there ∙ subst (λ k. slice_get es k ≡ Some e) (sym here) at) in
      other (subst (λ (y : Element). BearsEnd marks y.id) same bears))
      (λ (apart : i ≡ seen → ⊥). s.none i x low (omega (arith, high, apart)) there bears)
      (cases_eq i seen);
}

pub seen_end : (es : List Element) (marks : List Op) (caret place seen : ℕ) (e : Element) → Seen es marks caret place seen → slice_get es seen ≡ Some e → e.visible ≡ false → BearsEnd marks e.id → Seen es marks caret (seen + 1) (seen + 1)
seen_end es marks caret place seen e s at unseen bears = record {
  from = omega (arith, s.from, s.within);
  within = omega arith;
  hidden = hidden_more es caret seen e s.hidden at unseen;
  bears = inr (seen, refl, (e, at, bears));
  none = λ i x low high there other. absurd (omega (arith, low, high));
}

-- the walk ends at a visible character, or behind the last one
pub ends_visible : (es : List Element) (marks : List Op) (caret place seen : ℕ) (e : Element) → Seen es marks caret place seen → slice_get es seen ≡ Some e → e.visible ≡ true → caret ≤ seen → IsInsertPlace es marks caret place
ends_visible es marks caret place seen e s at shown from = record {
  from = s.from;
  hidden = λ i x low high there. s.hidden i x low (omega (arith, high, s.within)) there;
  bears = s.bears;
  last = λ i x low hidden there bears.
      ⊎_elim
      (λ (before : i < seen). s.none i x low before there bears)
      (λ (behind : seen ≤ i).
      let unseen = hidden seen e from (omega (arith, behind)) at in
      absurd (false≢true (sym unseen ∙ shown)))
      (cases_lt i seen);
}

pub ends_last : (es : List Element) (marks : List Op) (caret place : ℕ) → Seen es marks caret place (length es) → IsInsertPlace es marks caret place
ends_last es marks caret place s = record {
  from = s.from;
  hidden = λ i x low high there. s.hidden i x low (omega (arith, high, s.within)) there;
  bears = s.bears;
  last = λ i x low hidden there bears. s.none i x low (slice_get_within es i x there) there bears;
}
