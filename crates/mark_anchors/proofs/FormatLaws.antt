-- A format is a function of the set of operations.
use Rattle.std.proofs.Common.{◌≡◌, ◌↔◌, ◌∙◌, ℕ, ◌<◌, List, Option, Some, None, inl, inr, length, get_or, ext_get_or, sym, refl, arith}
use Rattle.std.specs.List.{Contains}
use Rattle.std.proofs.lemmas.Option.{none-some}
use Rattle.change_ops.specs.Operations.{key_of}
use Rattle.change_ops.specs.Reading.{valued}
use Rattle.change_ops.specs.declared.id.OpId.{OpId}
use Rattle.change_ops.specs.declared.keys.TheConstants.{KEYS}
use Rattle.change_ops.specs.declared.attribute.Key.{Key}
use Rattle.change_ops.specs.declared.attribute.Attribute.{Attribute}
use Rattle.change_ops.specs.declared.attribute.Attribute.TheVariants.{Comment}
use Rattle.change_ops.specs.declared.operation.Anchor.{Anchor}
use Rattle.change_ops.specs.declared.operation.Anchor.TheVariants.{TextStart, BeforeCharacter, AfterCharacter, TextEnd}
use Rattle.change_ops.specs.declared.operation.Op.{Op}
use Rattle.change_ops.specs.declared.operation.Op.TheVariants.{Insert, Remove, AddMark, RemoveMark, Revive}
use Rattle.char_sequence.specs.Order.{SameSet}
use Rattle.char_sequence.proofs.TreeLaws.{Grows, before_kept}
use Rattle.char_sequence.proofs.Lists.{same_in_order, MembersOf}
use Rattle.mark_anchors.specs.Anchors.{NotAfter, AtOrBefore, Covers}
use Rattle.mark_anchors.specs.Format.{Touches, Decides, Bears, IsFormat}
use Rattle.mark_anchors.specs.Formatting.{Format}
use Rattle.mark_anchors.proofs.Formats.{same_fields}
use Rattle.mark_anchors.proofs.Lists.{contains_at, contains_from}
use Rattle.mark_anchors.proofs.Commenting.{rises}

not_after_kept : (old new : List Op) → Grows old new → (x y : OpId) → NotAfter old x y → NotAfter new x y
not_after_kept old new more x y (inl same) = inl same
not_after_kept old new more x y (inr before) = inr (before_kept old new more (Some x) y before)

start_kept : (old new : List Op) → Grows old new → (start : Anchor) (e : OpId) → AtOrBefore old start (BeforeCharacter e) → AtOrBefore new start (BeforeCharacter e)
start_kept old new more TextStart e is = tt
start_kept old new more (BeforeCharacter x) e is = not_after_kept old new more x e is
start_kept old new more (AfterCharacter x) e is = before_kept old new more (Some x) e is
start_kept old new more TextEnd e is = absurd is

end_kept : (old new : List Op) → Grows old new → (end : Anchor) (e : OpId) → AtOrBefore old (AfterCharacter e) end → AtOrBefore new (AfterCharacter e) end
end_kept old new more TextStart e is = absurd is
end_kept old new more (BeforeCharacter x) e is = before_kept old new more (Some e) x is
end_kept old new more (AfterCharacter x) e is = not_after_kept old new more e x is
end_kept old new more TextEnd e is = tt

covers_kept : (old new : List Op) → Grows old new → (start end : Anchor) (e : OpId) → Covers old start end e → Covers new start end e
covers_kept old new more start end e covers = (start_kept old new more start e covers.0, end_kept old new more end e covers.1)

pub touches_kept : (old new : List Op) → Grows old new → (key : Key) (e : OpId) (o : Op) → Touches old key e o → Touches new key e o
touches_kept old new more key e (Insert id parent character) touches = absurd touches
touches_kept old new more key e (Remove id target) touches = absurd touches
touches_kept old new more key e (AddMark id attribute start end) touches = (touches.0, covers_kept old new more start end e touches.1)
touches_kept old new more key e (RemoveMark id other start end) touches = (touches.0, covers_kept old new more start end e touches.1)
touches_kept old new more key e (Revive id removal) touches = absurd touches

pub decides_of_set : (ops others : List Op) → SameSet ops others → (key : Key) (e : OpId) (o : Op) → Decides ops key e o → Decides others key e o
decides_of_set ops others s key e o d = record {
  held = s.forth o d.held;
  touches = touches_kept ops others (λ x p i. (i.0, s.forth (Insert x p i.0) i.1)) key e o d.touches;
  greatest = λ p held touches. d.greatest p (s.back p held) (touches_kept others ops (λ x q i. (i.0, s.back (Insert x q i.0) i.1)) key e p touches);
}

pub bears_of_set : (ops others : List Op) → SameSet ops others → (e : OpId) (a : Attribute) → Bears ops e a → Bears others e a
bears_of_set ops others s e a bears = (bears.0, decides_of_set ops others s (key_of a) e bears.0 bears.1, bears.2)

turned : (ops others : List Op) → SameSet ops others → SameSet others ops
turned ops others s = record { forth = s.back; back = s.forth }

-- where a character bears what another bears, it has the other's format
pub format_carried : (ops others : List Op) (e f : OpId) → ((a : Attribute) → Bears ops e a → Bears others f a) → ((a : Attribute) → Bears others f a → Bears ops e a) → (g : Format) → IsFormat ops e g → IsFormat others f g
format_carried ops others e f there back g is = record {
  sized = is.sized;
  rows = λ row value less. (λ t. there (valued row value) ((is.rows row value less).0 t), λ b. (is.rows row value less).1 (back (valued row value) b));
  comments = λ n. (λ t. there (Comment n) ((is.comments n).0 t), λ b. (is.comments n).1 (back (Comment n) b));
  rising = is.rising;
}

pub format_of_set : (ops others : List Op) → SameSet ops others → (e : OpId) (f : Format) → IsFormat ops e f → IsFormat others e f
format_of_set ops others s e = format_carried ops others e e (bears_of_set ops others s e) (bears_of_set others ops (turned ops others s) e)

-- two options that have the same values
same_options : {X : Type 0} (P : X → Type 0) (a b : Option X) → ((x : X) → (a ≡ Some x) ↔ P x) → ((x : X) → (b ≡ Some x) ↔ P x) → a ≡ b
same_options P None None h k = refl
same_options P None (Some y) h k = absurd (none-some y ((h y).1 ((k y).0 refl)))
same_options P (Some x) b h k = sym ((k x).1 ((h x).0 refl))

same_members : (P : ℕ → Type 0) (xs ys : List ℕ) → ((n : ℕ) → Contains xs n ↔ P n) → ((n : ℕ) → Contains ys n ↔ P n) → MembersOf xs ys
same_members P xs ys h k i n g = contains_at ys n ((k n).1 ((h n).0 (contains_from xs i n g)))

same_values : (ops : List Op) (e : OpId) (f g : Format) → IsFormat ops e f → IsFormat ops e g → f.values ≡ g.values
same_values ops e f g is also =
    ext_get_or None f.values g.values (is.sized ∙ sym also.sized)
    (λ row within.
    let sized : length f.values ≡ KEYS = is.sized in
    let less : row < KEYS = omega arith in
    same_options (λ value. Bears ops e (valued row value)) (get_or f.values row None) (get_or g.values row None) (λ value. is.rows row value less) (λ value. also.rows row value less))

-- a character has one format
pub one_format : (ops : List Op) (e : OpId) (f g : Format) → IsFormat ops e f → IsFormat ops e g → f ≡ g
one_format ops e f g is also =
    same_fields f g (same_values ops e f g is also)
    (same_in_order (λ x y. x < y) (λ a b less more. omega arith) f.comments g.comments (rises f.comments is.rising) (rises g.comments also.rising)
    (same_members (λ n. Bears ops e (Comment n)) f.comments g.comments is.comments also.comments)
    (same_members (λ n. Bears ops e (Comment n)) g.comments f.comments also.comments is.comments))

pub one_format_of_set : (ops others : List Op) → SameSet ops others → (e : OpId) (f g : Format) → IsFormat ops e f → IsFormat others e g → f ≡ g
one_format_of_set ops others s e f g is also = one_format others e f g (format_of_set ops others s e f is) also
