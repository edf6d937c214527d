-- Between two cuts all characters have one format.
use Rattle.std.proofs.Common.{◌≡◌, ◌↔◌, ℕ, ◌+◌, ◌<◌, ◌≤◌, List, Some, inl, inr, ◌⊎◌, length, sym, ap, refl, ◌∙◌, subst, arith, ⊎_elim}
use Rattle.std.specs.List.{slice_get, Contains}
use Rattle.std.proofs.lemmas.Bool.{cases_lt}
use Rattle.std.proofs.lemmas.Option.{same_Some, slice_get_within}
use Rattle.change_ops.specs.Operations.{key_of, AnchorNames, Names}
use Rattle.change_ops.specs.declared.id.OpId.{OpId}
use Rattle.change_ops.specs.declared.attribute.Key.{Key}
use Rattle.change_ops.specs.declared.attribute.Attribute.{Attribute}
use Rattle.change_ops.specs.declared.operation.Anchor.{Anchor}
use Rattle.change_ops.specs.declared.operation.Anchor.TheVariants.{TextStart, BeforeCharacter, AfterCharacter, TextEnd}
use Rattle.change_ops.specs.declared.operation.Op.{Op}
use Rattle.change_ops.specs.declared.operation.Op.TheVariants.{Insert, Remove, AddMark, RemoveMark, Revive}
use Rattle.char_sequence.specs.declared.sequence.Element.{Element}
use Rattle.char_sequence.specs.Order.{Shows}
use Rattle.mark_anchors.specs.Format.{Touches, Decides, Bears, IsFormat}
use Rattle.mark_anchors.specs.Formatting.{Format}
use Rattle.mark_anchors.specs.Marks.{AreMarks}
use Rattle.mark_anchors.specs.MarkRange.{IsRangeOf}
use Rattle.mark_anchors.specs.Places.{IsBoundary, Lies}
use Rattle.mark_anchors.specs.Ranges.{IsReached, AreCuts, IsCutAt, IsUniform}
use Rattle.mark_anchors.specs.declared.mark_range.MarkRange.{MarkRange}
use Rattle.mark_anchors.proofs.Commenting.{rises}
use Rattle.mark_anchors.proofs.Deciding.{touches_from_place, place_from_touches, of_key_from_touches, mark_from_key}
use Rattle.mark_anchors.proofs.FormatLaws.{format_carried}
use Rattle.mark_anchors.proofs.Lists.{contains_at, contains_from}

-- ---- two characters that the same marks touch
module _ (ops : List Op) (e f : OpId) (alike : (key : Key) (o : Op) → Contains ops o → Touches ops key e o ↔ Touches ops key f o) where
  decides_along : (key : Key) (o : Op) → Decides ops key e o → Decides ops key f o
  decides_along key o d = record {
    held = d.held;
    touches = (alike key o d.held).0 d.touches;
    greatest = λ p held touches. d.greatest p held ((alike key p held).1 touches);
  }

  bears_along : (a : Attribute) → Bears ops e a → Bears ops f a
  bears_along a b = (b.0, decides_along (key_of a) b.0 b.1, b.2)

turned : (ops : List Op) (e f : OpId) → ((key : Key) (o : Op) → Contains ops o → Touches ops key e o ↔ Touches ops key f o) → (key : Key) (o : Op) → Contains ops o → Touches ops key f o ↔ Touches ops key e o
turned ops e f alike key o held = ((alike key o held).1, (alike key o held).0)

format_along : (ops : List Op) (e f : OpId) → ((key : Key) (o : Op) → Contains ops o → Touches ops key e o ↔ Touches ops key f o) → (g : Format) → IsFormat ops e g → IsFormat ops f g
format_along ops e f alike = format_carried ops ops e f (bears_along ops e f alike) (bears_along ops f e (turned ops e f alike))

module _ (ops : List Op) (es : List Element) (marks : List Op) (from to place : ℕ) (e f : Element) (h : Shows es ops) (are : AreMarks ops marks) (uniform : IsUniform es marks from to)
    (at : slice_get es from ≡ Some e) (here : slice_get es place ≡ Some f) (low : from ≤ place) (high : place < to) where
  one_side : (o : Op) (key : Key) → Contains ops o → Touches ops key e.id o → Touches ops key f.id o
  one_side o key held t =
      let of_key = of_key_from_touches ops key e.id o t in
      let u = uniform o (are.listed o held (mark_from_key key o of_key)) in
      let first : ℕ = u.0 in
      let last : ℕ = u.1.0 in
      let covered = place_from_touches ops es h key o first last from e.id u.1.1 (e, at, refl) t in
      let begun : first ≤ from = covered.0 in
      let ongoing : from < last = covered.1 in
      ⊎_elim
      (λ (closed : last ≤ from). absurd (omega arith))
      (λ (past : to ≤ last). touches_from_place ops es h key o first last place f.id of_key u.1.1 (f, here, refl) (omega arith) (omega arith))
      u.1.3

  other_side : (o : Op) (key : Key) → Contains ops o → Touches ops key f.id o → Touches ops key e.id o
  other_side o key held t =
      let of_key = of_key_from_touches ops key f.id o t in
      let u = uniform o (are.listed o held (mark_from_key key o of_key)) in
      let first : ℕ = u.0 in
      let last : ℕ = u.1.0 in
      let covered = place_from_touches ops es h key o first last place f.id u.1.1 (f, here, refl) t in
      let begun : first ≤ place = covered.0 in
      let ongoing : place < last = covered.1 in
      ⊎_elim
      (λ (early : first ≤ from). touches_from_place ops es h key o first last from e.id of_key u.1.1 (e, at, refl) early (omega arith))
      (λ (late : to ≤ first). absurd (omega arith))
      u.1.2

  pub one_format_between : (g : Format) → IsFormat ops e.id g → IsFormat ops f.id g
  one_format_between g is = format_along ops e.id f.id (λ key o held. (one_side o key held, other_side o key held)) g is

-- ---- the places of a mark's anchors
pub names_start : (o : Op) (r : MarkRange) → IsRangeOf o r → (x : OpId) → AnchorNames r.start x → Names o x
names_start (Insert id parent character) r is x names = absurd is
names_start (Remove id target) r is x names = absurd is
names_start (AddMark id attribute start end) r is x names = inl (subst (λ a. AnchorNames a x) (sym is.1) names)
names_start (RemoveMark id key start end) r is x names = inl (subst (λ a. AnchorNames a x) (sym is.1) names)
names_start (Revive id removal) r is x names = absurd is

pub names_end : (o : Op) (r : MarkRange) → IsRangeOf o r → (x : OpId) → AnchorNames r.end x → Names o x
names_end (Insert id parent character) r is x names = absurd is
names_end (Remove id target) r is x names = absurd is
names_end (AddMark id attribute start end) r is x names = inr (subst (λ a. AnchorNames a x) (sym is.2) names)
names_end (RemoveMark id key start end) r is x names = inr (subst (λ a. AnchorNames a x) (sym is.2) names)
names_end (Revive id removal) r is x names = absurd is

pub lies_from_range : (es : List Element) (o : Op) (r : MarkRange) (first last : ℕ) → IsRangeOf o r → IsBoundary es r.start first → IsBoundary es r.end last → Lies es o first last
lies_from_range es (Insert id parent character) r first last is a b = absurd is
lies_from_range es (Remove id target) r first last is a b = absurd is
lies_from_range es (AddMark id attribute start end) r first last is a b = (subst (λ z. IsBoundary es z first) (sym is.1) a, subst (λ z. IsBoundary es z last) (sym is.2) b)
lies_from_range es (RemoveMark id key start end) r first last is a b = (subst (λ z. IsBoundary es z first) (sym is.1) a, subst (λ z. IsBoundary es z last) (sym is.2) b)
lies_from_range es (Revive id removal) r first last is a b = absurd is

pub boundary_within : (es : List Element) (a : Anchor) (n : ℕ) → IsBoundary es a n → n ≤ length es
boundary_within es TextStart n is = let at : n ≡ 0 = is in omega arith
boundary_within es (BeforeCharacter x) n (e, at, id) = let within : n < length es = slice_get_within es n e at in omega arith
boundary_within es (AfterCharacter x) n (k, (e, at, id), next) = let within : k < length es = slice_get_within es k e at in let eq : n ≡ k + 1 = next in omega arith
boundary_within es TextEnd n is = let at : n ≡ length es = is in omega arith

-- ---- cuts
module _ (es : List Element) (marks : List Op) (low high : ℕ) (cuts : List ℕ) (are : AreCuts es marks low high cuts) where
  upto : (i j x y : ℕ) → slice_get cuts i ≡ Some x → slice_get cuts j ≡ Some y → i ≤ j → x ≤ y
  upto i j x y g h le =
      ⊎_elim
      (λ (less : i < j). let lt : x < y = rises cuts are.rising i j x y less g h in omega arith)
      (λ (ge : j ≤ i). let same : i ≡ j = omega arith in let one : x ≡ y = same_Some x y (sym g ∙ ap (slice_get cuts) same ∙ h) in omega arith)
      (cases_lt i j)

  from_low : (k from : ℕ) → IsReached cuts low k from → low ≤ from
  from_low k from reached =
      ⊎_elim
      (λ (start : (k ≡ 0) × (from ≡ low)). let first : from ≡ low = start.1 in omega arith)
      (λ (r : (j : ℕ) × (k ≡ j + 1) × (slice_get cuts j ≡ Some from)). let behind : low < from = (are.within from (contains_from cuts r.0 from r.2)).0 in omega arith)
      reached

  cut_side : (k from to : ℕ) → IsReached cuts low k from → slice_get cuts k ≡ Some to → (c : ℕ) → Contains cuts c → (c ≤ from) ⊎ (to ≤ c)
  cut_side k from to reached at c held =
      let i = contains_at cuts c held in
      ⊎_elim
      (λ (less : i.0 < k).
      ⊎_elim
      (λ (start : (k ≡ 0) × (from ≡ low)). let zero : k ≡ 0 = start.0 in absurd (omega arith))
      (λ (r : (j : ℕ) × (k ≡ j + 1) × (slice_get cuts j ≡ Some from)). let next : k ≡ r.0 + 1 = r.1 in inl (upto i.0 r.0 c from i.1 r.2 (omega arith)))
      reached)
      (λ (ge : k ≤ i.0). inr (upto k i.0 to c at i.1 ge))
      (cases_lt i.0 k)

  before_or_after : (k from to : ℕ) → IsReached cuts low k from → slice_get cuts k ≡ Some to → (c : ℕ) → IsCutAt low high cuts c → (c ≤ from) ⊎ (to ≤ c)
  before_or_after k from to reached at c cut =
      let first : low ≤ from = from_low k from reached in
      let last : to ≤ high = (are.within to (contains_from cuts k to at)).1 in
      ⊎_elim
      (λ (behind : low < c).
      ⊎_elim
      (λ (past : high < c). inr (omega arith))
      (λ (upto : c ≤ high). cut_side k from to reached at c (cut behind upto))
      (cases_lt high c))
      (λ (before : c ≤ low). inl (omega arith))
      (cases_lt low c)

  pub next_cut : (k from to : ℕ) → IsReached cuts low k from → slice_get cuts k ≡ Some to → (from ≤ to) × (to ≤ high) × IsUniform es marks from to
  next_cut k from to reached at = (
    ⊎_elim
        (λ (start : (k ≡ 0) × (from ≡ low)). let first : from ≡ low = start.1 in let behind : low < to = (are.within to (contains_from cuts k to at)).0 in omega arith)
        (λ (r : (j : ℕ) × (k ≡ j + 1) × (slice_get cuts j ≡ Some from)). let next : k ≡ r.0 + 1 = r.1 in upto r.0 k from to r.2 at (omega arith))
        reached,
    (are.within to (contains_from cuts k to at)).1,
    λ o held. let cut = are.every o held in (cut.0, (cut.1.0, cut.1.1, before_or_after k from to reached at cut.0 cut.1.2, before_or_after k from to reached at cut.1.0 cut.1.3)),
  )

  some_reached : (k from : ℕ) → k ≡ length cuts → IsReached cuts low k from → from ≤ high → low < high → from ≡ high
  some_reached k from whole reached most less =
      let i = contains_at cuts high (are.end less) in
      let within : i.0 < length cuts = slice_get_within cuts i.0 high i.1 in
      ⊎_elim
      (λ (start : (k ≡ 0) × (from ≡ low)). let zero : k ≡ 0 = start.0 in absurd (omega arith))
      (λ (r : (j : ℕ) × (k ≡ j + 1) × (slice_get cuts j ≡ Some from)).
      let next : k ≡ r.0 + 1 = r.1 in
      let least : high ≤ from = upto i.0 r.0 high from i.1 r.2 (omega arith) in
      omega arith)
      reached

  upto_high : (k from : ℕ) → low ≤ high → IsReached cuts low k from → from ≤ high
  upto_high k from order reached =
      ⊎_elim
      (λ (start : (k ≡ 0) × (from ≡ low)). let first : from ≡ low = start.1 in omega arith)
      (λ (r : (j : ℕ) × (k ≡ j + 1) × (slice_get cuts j ≡ Some from)). (are.within from (contains_from cuts r.0 from r.2)).1)
      reached

  pub all_reached : (k from : ℕ) → low ≤ high → k ≡ length cuts → IsReached cuts low k from → from ≡ high
  all_reached k from order whole reached =
      let first : low ≤ from = from_low k from reached in
      let most : from ≤ high = upto_high k from order reached in
      ⊎_elim
      (λ (less : low < high). some_reached k from whole reached most less)
      (λ (none : high ≤ low). omega arith)
      (cases_lt low high)
