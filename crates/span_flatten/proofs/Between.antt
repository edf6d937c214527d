-- Characters between two places where no mark begins or ends have one format.
use Rattle.std.proofs.Common.{◌≡◌, ℕ, ◌<◌, ◌≤◌, List, Some, refl, arith, ⊎_elim}
use Rattle.std.specs.List.{slice_get, Contains}
use Rattle.change_ops.specs.Operations.{key_of}
use Rattle.change_ops.specs.declared.id.OpId.{OpId}
use Rattle.change_ops.specs.declared.attribute.Key.{Key}
use Rattle.change_ops.specs.declared.attribute.Attribute.{Attribute}
use Rattle.change_ops.specs.declared.operation.Op.{Op}
use Rattle.char_sequence.specs.declared.sequence.Element.{Element}
use Rattle.char_sequence.specs.Order.{Shows}
use Rattle.mark_anchors.specs.Format.{Touches, Bears, IsFormat}
use Rattle.mark_anchors.specs.Formatting.{Format}
use Rattle.mark_anchors.specs.Marks.{AreMarks}
use Rattle.mark_anchors.specs.Ranges.{IsUniform}
use Rattle.mark_anchors.proofs.Deciding.{touches_from_place, place_from_touches, of_key_from_touches, mark_from_key}
use Rattle.mark_anchors.proofs.FormatLaws.{format_carried}

-- each mark that touches the one character touches the other
abbrev TouchAlike : List Op → OpId → OpId → Type 0
TouchAlike ops e f = (key : Key) (o : Op) → Contains ops o → Touches ops key e o → Touches ops key f o

module _ (ops : List Op) (e f : OpId) (there : TouchAlike ops e f) (back : TouchAlike ops f e) where
  bears_along : (a : Attribute) → Bears ops e a → Bears ops f a
  bears_along a (o, decides, is) =
      (o, record { held = decides.held; touches = there (key_of a) o decides.held decides.touches; greatest = λ p held t. decides.greatest p held (back (key_of a) p held t) }, is)

format_along : (ops : List Op) (e f : OpId) → TouchAlike ops e f → TouchAlike ops f e → (g : Format) → IsFormat ops e g → IsFormat ops f g
format_along ops e f there back = format_carried ops ops e f (bears_along ops e f there back) (bears_along ops f e back there)

module _ (ops : List Op) (es : List Element) (marks : List Op) (low high : ℕ) (h : Shows es ops) (are : AreMarks ops marks) (uniform : IsUniform es marks low high) where
  touch_alike : (i j : ℕ) (e f : Element) → low ≤ i → i < high → low ≤ j → j < high → slice_get es i ≡ Some e → slice_get es j ≡ Some f → TouchAlike ops e.id f.id
  touch_alike i j e f from to from' to' at at' key o held t =
      let of_key = of_key_from_touches ops key e.id o t in
      let u = uniform o (are.listed o held (mark_from_key key o of_key)) in
      let first : ℕ = u.0 in
      let last : ℕ = u.1.0 in
      let covered = place_from_touches ops es h key o first last i e.id u.1.1 (e, at, refl) t in
      let begun : first ≤ i = covered.0 in
      let ongoing : i < last = covered.1 in
      ⊎_elim
      (λ (early : first ≤ low).
      ⊎_elim
      (λ (closed : last ≤ low). absurd (omega arith))
      (λ (past : high ≤ last). touches_from_place ops es h key o first last j f.id of_key u.1.1 (f, at', refl) (omega arith) (omega arith))
      u.1.3)
      (λ (late : high ≤ first). absurd (omega arith))
      u.1.2

  pub same_between : (i j : ℕ) (e f : Element) → low ≤ i → i < high → low ≤ j → j < high → slice_get es i ≡ Some e → slice_get es j ≡ Some f → (g : Format) → IsFormat ops e.id g → IsFormat ops f.id g
  same_between i j e f from to from' to' at at' =
      format_along ops e.id f.id (touch_alike i j e f from to from' to' at at') (touch_alike j i f e from' to' from to at' at)
