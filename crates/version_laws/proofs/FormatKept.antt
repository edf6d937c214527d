-- The format of a character that was there stays where no operation touches it.
use Rattle.std.proofs.Common.{◌≡◌, ◌↔◌, ℕ, ◌<◌, ◌≤◌, ◌⊎◌, true, List, [], ◌∷◌, ◌++◌, inl, inr, sym, refl, subst, arith, ⊎_elim}
use Rattle.std.specs.List.{Contains}
use Rattle.std.proofs.lemmas.Bool.{true≢false}
use Rattle.std.proofs.lemmas.List.Elements.{Contains-append_left, Contains-push_cases}
use Rattle.change_ops.specs.declared.size.Size.{Size}
use Rattle.change_ops.specs.Operations.{key_of, is_edit, AnchorNames, Names}
use Rattle.change_ops.specs.declared.id.OpId.{OpId}
use Rattle.change_ops.specs.declared.attribute.Key.{Key}
use Rattle.change_ops.specs.declared.attribute.Attribute.{Attribute}
use Rattle.change_ops.specs.declared.operation.Anchor.{Anchor}
use Rattle.change_ops.specs.declared.operation.Anchor.TheVariants.{TextStart, BeforeCharacter, AfterCharacter, TextEnd}
use Rattle.change_ops.specs.declared.operation.Op.{Op}
use Rattle.change_ops.specs.declared.operation.Op.TheVariants.{Insert, Remove, AddMark, RemoveMark, Revive}
use Rattle.char_sequence.specs.declared.sequence.Element.{Element}
use Rattle.char_sequence.specs.Tree.{Present, IsTree}
use Rattle.char_sequence.specs.Order.{IsAt, Shows}
use Rattle.char_sequence.specs.Acceptance.{Accepts}
use Rattle.mark_anchors.specs.Anchors.{NotAfter, AtOrBefore}
use Rattle.mark_anchors.specs.Format.{Touches, Decides, Bears, IsFormat}
use Rattle.mark_anchors.specs.Formatting.{Format}
use Rattle.mark_anchors.specs.Places.{Lies}
use Rattle.mark_anchors.proofs.FormatLaws.{touches_kept, format_carried}
use Rattle.mark_anchors.proofs.Deciding.{place_from_touches}
use Rattle.version_laws.specs.Later.{Extends}
use Rattle.version_laws.proofs.OrderKept.{before_same, extends_accepted}

-- ---- what a mark whose anchors name characters that were there covers
not_after_back : (old new : List Op) → IsTree old → Extends old new → (x y : OpId) → Present old x → Present old y → NotAfter new x y → NotAfter old x y
not_after_back old new t h x y at bt (inl same) = inl same
not_after_back old new t h x y at bt (inr before) = inr ((before_same old new t h x y at bt).1 before)

start_back : (old new : List Op) → IsTree old → Extends old new → (start : Anchor) (e : OpId) → ((x : OpId) → AnchorNames start x → Present old x) → Present old e → AtOrBefore new start (BeforeCharacter e) → AtOrBefore old start (BeforeCharacter e)
start_back old new t h TextStart e named at is = tt
start_back old new t h (BeforeCharacter x) e named at is = not_after_back old new t h x e (named x refl) at is
start_back old new t h (AfterCharacter x) e named at is = (before_same old new t h x e (named x refl) at).1 is
start_back old new t h TextEnd e named at is = absurd is

end_back : (old new : List Op) → IsTree old → Extends old new → (end : Anchor) (e : OpId) → ((x : OpId) → AnchorNames end x → Present old x) → Present old e → AtOrBefore new (AfterCharacter e) end → AtOrBefore old (AfterCharacter e) end
end_back old new t h TextStart e named at is = absurd is
end_back old new t h (BeforeCharacter x) e named at is = (before_same old new t h e x at (named x refl)).1 is
end_back old new t h (AfterCharacter x) e named at is = not_after_back old new t h e x at (named x refl) is
end_back old new t h TextEnd e named at is = tt

pub touches_back : (old new : List Op) → IsTree old → Extends old new → (key : Key) (e : OpId) (o : Op) → ((x : OpId) → Names o x → Present old x) → Present old e → Touches new key e o → Touches old key e o
touches_back old new t h key e (Insert id parent character) named at touches = absurd touches
touches_back old new t h key e (Remove id target) named at touches = absurd touches
touches_back old new t h key e (Revive id removal) named at touches = absurd touches
touches_back old new t h key e (AddMark id attribute start end) named at touches =
    (touches.0, (start_back old new t h start e (λ x n. named x (inl n)) at touches.1.0, end_back old new t h end e (λ x n. named x (inr n)) at touches.1.1))
touches_back old new t h key e (RemoveMark id other start end) named at touches =
    (touches.0, (start_back old new t h start e (λ x n. named x (inl n)) at touches.1.0, end_back old new t h end e (λ x n. named x (inr n)) at touches.1.1))

-- An operation that names characters that were there touches one of those that were there exactly if it did before.
pub touches_same : (old new : List Op) → IsTree old → Extends old new → (key : Key) (e : OpId) (o : Op) → ((x : OpId) → Names o x → Present old x) → Present old e → Touches old key e o ↔ Touches new key e o
touches_same old new t h key e o named at = (touches_kept old new h.more key e o, touches_back old new t h key e o named at)

pub edit_touches : (ops : List Op) (key : Key) (e : OpId) (o : Op) → is_edit o ≡ true → Touches ops key e o → ⊥
edit_touches ops key e (Insert id parent character) edit touches = touches
edit_touches ops key e (Remove id target) edit touches = touches
edit_touches ops key e (Revive id removal) edit touches = touches
edit_touches ops key e (AddMark id attribute start end) edit touches = true≢false (sym edit)
edit_touches ops key e (RemoveMark id other start end) edit touches = true≢false (sym edit)

-- ---- more operations, of which none touches the character
module _ (old new : List Op) (t : IsTree old) (named : (o : Op) (x : OpId) → Contains old o → Names o x → Present old x)
    (h : Extends old new) (more : (o : Op) → Contains old o → Contains new o) (e : OpId) (at : Present old e) where
  decides_forth : (key : Key) → ((o : Op) → Contains new o → Touches new key e o → Contains old o) → (o : Op) → Decides old key e o → Decides new key e o
  decides_forth key none o d = record {
    held = more o d.held;
    touches = touches_kept old new h.more key e o d.touches;
    greatest = λ p held touches. let was = none p held touches in d.greatest p was (touches_back old new t h key e p (λ x. named p x was) at touches);
  }

  decides_back : (key : Key) → ((o : Op) → Contains new o → Touches new key e o → Contains old o) → (o : Op) → Decides new key e o → Decides old key e o
  decides_back key none o d =
      let was : Contains old o = none o d.held d.touches in
      record {
        held = was;
        touches = touches_back old new t h key e o (λ x. named o x was) at d.touches;
        greatest = λ p held touches. d.greatest p (more p held) (touches_kept old new h.more key e p touches);
      }

  pub bears_same : (a : Attribute) → ((o : Op) → Contains new o → Touches new (key_of a) e o → Contains old o) → Bears old e a ↔ Bears new e a
  bears_same a none = (
    λ b. (b.0, decides_forth (key_of a) none b.0 b.1, b.2),
    λ b. (b.0, decides_back (key_of a) none b.0 b.1, b.2),
  )

  -- The format of a character stays where no later operation touches it.
  pub format_same : ((key : Key) (o : Op) → Contains new o → Touches new key e o → Contains old o) → (f : Format) → IsFormat old e f ↔ IsFormat new e f
  format_same none f = (
    format_carried old new e e (λ a. (bears_same a (none (key_of a))).0) (λ a. (bears_same a (none (key_of a))).1) f,
    format_carried new old e e (λ a. (bears_same a (none (key_of a))).1) (λ a. (bears_same a (none (key_of a))).0) f,
  )

-- ---- one operation more
module _ {size : Size} (ops : List Op) (es : List Element) (op : Op) (shows : Shows es ops) (a : Accepts size ops op) (e : OpId) (at : Present ops e) where
  pushed : (o : Op) → Contains ops o → Contains (ops ++ op ∷ []) o
  pushed o = Contains-append_left ops (op ∷ []) o

  -- it touches the character exactly if it did before it was among the others
  pub touches_pushed : (key : Key) → Touches ops key e op ↔ Touches (ops ++ op ∷ []) key e op
  touches_pushed key = touches_same ops (ops ++ op ∷ []) shows.tree (extends_accepted ops op a) key e op a.known at

  none_new : (key : Key) → (Touches ops key e op → ⊥) → (o : Op) → Contains (ops ++ op ∷ []) o → Touches (ops ++ op ∷ []) key e o → Contains ops o
  none_new key not o held touches =
      ⊎_elim
      (λ (old : Contains ops o). old)
      (λ (new : op ≡ o). absurd (not ((touches_pushed key).1 (subst (λ z. Touches (ops ++ op ∷ []) key e z) (sym new) touches))))
      (Contains-push_cases ops op o held)

  -- A format stays where the operation doesn't touch the character.
  pub format_untouched : ((key : Key) → Touches ops key e op → ⊥) → (f : Format) → IsFormat ops e f ↔ IsFormat (ops ++ op ∷ []) e f
  format_untouched not = format_same ops (ops ++ op ∷ []) shows.tree shows.named (extends_accepted ops op a) pushed e at (λ key. none_new key (not key))

  -- An insert, a removal or a revival leaves the format.
  pub format_edit : is_edit op ≡ true → (f : Format) → IsFormat ops e f ↔ IsFormat (ops ++ op ∷ []) e f
  format_edit edit = format_untouched (λ key. edit_touches ops key e op edit)

  -- A mark leaves the format of a character that stands before its first boundary or from its last one on.
  pub format_outside : (first last place : ℕ) → Lies es op first last → IsAt es e place → (place < first) ⊎ (last ≤ place) → (f : Format) → IsFormat ops e f ↔ IsFormat (ops ++ op ∷ []) e f
  format_outside first last place lies stands outside =
      format_untouched
      (λ key touches.
      let within = place_from_touches ops es shows key op first last place e lies stands touches in
      let low : first ≤ place = within.0 in
      let high : place < last = within.1 in
      ⊎_elim (λ (u : place < first). absurd (omega arith)) (λ (u : last ≤ place). absurd (omega arith)) outside)
