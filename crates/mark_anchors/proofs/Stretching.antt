-- Where no mark of a key begins or ends, what the key has stays the same.
use Rattle.std.proofs.Common.{◌≡◌, ◌↔◌, ℕ, ◌+◌, ◌-◌, ◌<◌, ◌≤◌, List, Some, inl, inr, ◌⊎◌, length, get_or, sym, ap, ◌∙◌, subst, arith, ⊎_elim}
use Rattle.std.specs.List.{slice_get, Contains}
use Rattle.std.specs.List.Sorted.{IsStrictlyIncreasing}
use Rattle.std.proofs.lemmas.Bool.{cases_lt}
use Rattle.std.proofs.lemmas.Option.{same_Some, slice_get_within, slice_get-get_or, get_or_from_slice_get}
use Rattle.change_ops.specs.Operations.{key_of}
use Rattle.change_ops.specs.declared.id.OpId.{OpId}
use Rattle.change_ops.specs.declared.attribute.Key.{Key}
use Rattle.change_ops.specs.declared.attribute.Attribute.{Attribute}
use Rattle.change_ops.specs.declared.operation.Op.{Op}
use Rattle.char_sequence.specs.declared.sequence.Element.{Element}
use Rattle.char_sequence.specs.Order.{Shows, IsAt}
use Rattle.mark_anchors.specs.Format.{Touches, Decides, Bears}
use Rattle.mark_anchors.specs.KeyMarks.{AreStill, AreEnds}
use Rattle.mark_anchors.specs.Marks.{AreMarks}
use Rattle.mark_anchors.specs.Places.{IsOfKey, Lies}
use Rattle.mark_anchors.specs.Placed.{ArePlaced}
use Rattle.mark_anchors.specs.declared.placed.PlacedMark.{PlacedMark}
use Rattle.mark_anchors.proofs.Deciding.{touches_from_place, place_from_touches, of_key_from_touches, mark_from_key}
use Rattle.mark_anchors.proofs.Lists.{contains_at, contains_from}
use Rattle.mark_anchors.proofs.Painting.{ascending}

decides_there : (ops : List Op) (key : Key) (e f : OpId) → ((o : Op) → Contains ops o → Touches ops key e o ↔ Touches ops key f o) → (o : Op) → Decides ops key e o → Decides ops key f o
decides_there ops key e f alike o d = record {
  held = d.held;
  touches = (alike o d.held).0 d.touches;
  greatest = λ p held touches. d.greatest p held ((alike p held).1 touches);
}

-- an operation of the key is one of the marks
mark_of : (ops : List Op) (es : List Element) (operations : List Op) (marks : List PlacedMark) (key : Key) → AreMarks ops operations → ArePlaced es operations key marks → (o : Op) → Contains ops o → IsOfKey key o → (m : PlacedMark) × Contains marks m × Lies es o m.start m.end
mark_of ops es operations marks key are placed o held of_key =
    let j = contains_at operations o (are.listed o held (mark_from_key key o of_key)) in
    let r = placed.listed j.0 o (slice_get_within operations j.0 o j.1) j.1 of_key in
    let q = placed.placed r.0 r.1.0 r.1.1 in
    let same : q.0 ≡ o = same_Some q.0 o (sym q.1 ∙ ap (slice_get operations) r.1.2 ∙ j.1) in
    (r.1.0, contains_from marks r.0 r.1.0 r.1.1, subst (λ z. Lies es z r.1.0.start r.1.0.end) same q.2.lies)

module _ (ops : List Op) (es : List Element) (operations : List Op) (marks : List PlacedMark) (key : Key) (place until p : ℕ) (e f : OpId)
    (h : Shows es ops) (are : AreMarks ops operations) (placed : ArePlaced es operations key marks) (still : AreStill marks place until)
    (at : IsAt es e place) (here : IsAt es f p) (low : place ≤ p) (high : p < until) where
  there : (o : Op) → Contains ops o → Touches ops key e o → Touches ops key f o
  there o held t =
      let of_key = of_key_from_touches ops key e o t in
      let m = mark_of ops es operations marks key are placed o held of_key in
      let covered = place_from_touches ops es h key o m.0.start m.0.end place e m.2 at t in
      let begun : m.0.start ≤ place = covered.0 in
      let ongoing : place < m.0.end = covered.1 in
      ⊎_elim
      (λ (closed : m.0.end ≤ place). absurd (omega arith))
      (λ (past : until ≤ m.0.end). touches_from_place ops es h key o m.0.start m.0.end p f of_key m.2 here (omega arith) (omega arith))
      (still m.0 m.1).1

  back : (o : Op) → Contains ops o → Touches ops key f o → Touches ops key e o
  back o held t =
      let of_key = of_key_from_touches ops key f o t in
      let m = mark_of ops es operations marks key are placed o held of_key in
      let covered = place_from_touches ops es h key o m.0.start m.0.end p f m.2 here t in
      let begun : m.0.start ≤ p = covered.0 in
      let ongoing : p < m.0.end = covered.1 in
      ⊎_elim
      (λ (early : m.0.start ≤ place). touches_from_place ops es h key o m.0.start m.0.end place e of_key m.2 at early (omega arith))
      (λ (late : until ≤ m.0.start). absurd (omega arith))
      (still m.0 m.1).0

  pub bears_still : (a : Attribute) → key_of a ≡ key → Bears ops e a ↔ Bears ops f a
  bears_still a is = (
    λ b. (b.0, subst (λ k. Decides ops k f b.0) (sym is) (decides_there ops key e f (λ o held. (there o held, back o held)) b.0 (subst (λ k. Decides ops k e b.0) is b.1)), b.2),
    λ b. (b.0, subst (λ k. Decides ops k e b.0) (sym is) (decides_there ops key f e (λ o held. (back o held, there o held)) b.0 (subst (λ k. Decides ops k f b.0) is b.1)), b.2),
  )

-- ---- side by side
not_above : (places : List ℕ) → IsStrictlyIncreasing places → (i j x y : ℕ) → i ≤ j → slice_get places i ≡ Some x → slice_get places j ≡ Some y → x ≤ y
not_above places rising i j x y le g h =
    let here : get_or places i 0 ≡ x = get_or_from_slice_get places i x 0 g in
    let there : get_or places j 0 ≡ y = get_or_from_slice_get places j y 0 h in
    let low : get_or places i 0 ≤ get_or places j 0 = ascending places rising i j le (slice_get_within places j y h) in
    omega arith

outside : (places : List ℕ) → IsStrictlyIncreasing places → (i from to : ℕ) → slice_get places i ≡ Some from → slice_get places (i + 1) ≡ Some to → (x : ℕ) → Contains places x → (x ≤ from) ⊎ (to ≤ x)
outside places rising i from to g h x held =
    let j = contains_at places x held in
    ⊎_elim
    (λ (less : j.0 < i + 1). inl (not_above places rising j.0 i x from (omega arith) j.1 g))
    (λ (ge : i + 1 ≤ j.0). inr (not_above places rising (i + 1) j.0 to x ge h j.1))
    (cases_lt j.0 (i + 1))

-- no mark begins or ends between two places side by side
pub still_between : (marks : List PlacedMark) (places : List ℕ) → AreEnds marks places → (i from to : ℕ) → slice_get places i ≡ Some from → slice_get places (i + 1) ≡ Some to → AreStill marks from to
still_between marks places ends i from to g h m held =
    (outside places ends.rising i from to g h m.start (ends.begins m held), outside places ends.rising i from to g h m.end (ends.ends m held))

-- a character that bears the key stands behind the first place and before the last
pub within_ends : (ops : List Op) (es : List Element) (operations : List Op) (marks : List PlacedMark) (key : Key) (places : List ℕ) (p last : ℕ) (e : OpId) (a : Attribute) → Shows es ops → AreMarks ops operations → ArePlaced es operations key marks → AreEnds marks places → IsAt es e p → key_of a ≡ key → Bears ops e a → last ≡ length places - 1
    → (first : ℕ) × ((final : ℕ) × (slice_get places 0 ≡ Some first) × (slice_get places last ≡ Some final) × (first ≤ p) × (p < final))
within_ends ops es operations marks key places p last e a h are placed ends at is bears whole =
    let d : Decides ops key e bears.0 = subst (λ k. Decides ops k e bears.0) is bears.1 in
    let m = mark_of ops es operations marks key are placed bears.0 d.held (of_key_from_touches ops key e bears.0 d.touches) in
    let covered = place_from_touches ops es h key bears.0 m.0.start m.0.end p e m.2 at d.touches in
    let begun : m.0.start ≤ p = covered.0 in
    let ongoing : p < m.0.end = covered.1 in
    let i = contains_at places m.0.start (ends.begins m.0 m.1) in
    let k = contains_at places m.0.end (ends.ends m.0 m.1) in
    let within : k.0 < length places = slice_get_within places k.0 m.0.end k.1 in
    let first : ℕ = get_or places 0 0 in
    let final : ℕ = get_or places last 0 in
    let begins : slice_get places 0 ≡ Some first = slice_get-get_or places 0 0 (omega arith) in
    let stops : slice_get places last ≡ Some final = slice_get-get_or places last 0 (omega arith) in
    let low : first ≤ m.0.start = not_above places ends.rising 0 i.0 first m.0.start (omega arith) begins i.1 in
    let high : m.0.end ≤ final = not_above places ends.rising k.0 last m.0.end final (omega arith) k.1 stops in
    (first, (final, begins, stops, omega arith, omega arith))
