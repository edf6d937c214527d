-- The mark that decides, and what it adds.
use Rattle.std.proofs.Common.{◌≡◌, ℕ, ◌+◌, ◌<◌, ◌≤◌, true, List, Option, Some, None, inl, inr, ◌⊎◌, length, sym, ap, refl, ◌∙◌, subst, ⊎_elim}
use Rattle.std.specs.List.{slice_get, Contains}
use Rattle.std.specs.Option.{MatchOption}
use Rattle.std.proofs.lemmas.Option.{same_Some, none-some, slice_get_within}
use Rattle.change_ops.specs.Ids.{Less}
use Rattle.change_ops.specs.Operations.{id_of, is_mark, key_of}
use Rattle.change_ops.specs.declared.id.OpId.{OpId}
use Rattle.change_ops.specs.declared.attribute.Key.{Key}
use Rattle.change_ops.specs.declared.attribute.Attribute.{Attribute}
use Rattle.change_ops.specs.declared.operation.Anchor.{Anchor}
use Rattle.change_ops.specs.declared.operation.Op.{Op}
use Rattle.change_ops.specs.declared.operation.Op.TheVariants.{Insert, Remove, AddMark, RemoveMark, Revive}
use Rattle.char_sequence.specs.declared.sequence.Element.{Element}
use Rattle.char_sequence.specs.Order.{Shows, IsAt}
use Rattle.char_sequence.proofs.Ids.{less_trans, less_irrefl, less_cases}
use Rattle.mark_anchors.specs.Format.{Touches, Decides, added}
use Rattle.mark_anchors.specs.Marks.{AreMarks}
use Rattle.mark_anchors.specs.Places.{IsOfKey, Lies}
use Rattle.mark_anchors.specs.Placed.{ArePlaced, CoversPlace, IsGreatest, IsBest, IsValue}
use Rattle.mark_anchors.specs.declared.placed.PlacedMark.{PlacedMark}
use Rattle.mark_anchors.proofs.Lists.{contains_at, contains_from, first_or_last}
use Rattle.mark_anchors.proofs.Places.{starts_from_place, place_from_starts, ends_from_place, place_from_ends}

-- ---- one mark more
at_first : (marks : List PlacedMark) (k i : ℕ) (mark p : PlacedMark) → i < k + 1 → slice_get marks k ≡ Some mark → slice_get marks i ≡ Some p → (i < k) ⊎ (mark ≡ p)
at_first marks k i mark p l at g =
    ⊎_elim
    (λ (less : i < k). inl less)
    (λ (last : (i ≡ k) × (mark ≡ p)). inr last.1)
    (first_or_last marks k i mark p l at g)

best_keeps : (marks : List PlacedMark) (place k : ℕ) (mark b : PlacedMark) → slice_get marks k ≡ Some mark → IsGreatest marks place k b → (CoversPlace mark place → Less b.id mark.id → ⊥) → IsGreatest marks place (k + 1) b
best_keeps marks place k mark b at best not = record {
  at = best.at;
  covers = best.covers;
  greatest =
      λ i p l g covers.
      ⊎_elim
      (λ (less : i < k). best.greatest i p less g covers)
      (λ (one : mark ≡ p). subst (λ z. Less b.id z.id → ⊥) one (not (subst (λ z. CoversPlace z place) (sym one) covers)))
      (at_first marks k i mark p l at g);
}

pub best_new : (marks : List PlacedMark) (place k : ℕ) (mark : PlacedMark) → slice_get marks k ≡ Some mark → CoversPlace mark place → ((i : ℕ) (p : PlacedMark) → i < k → slice_get marks i ≡ Some p → CoversPlace p place → Less mark.id p.id → ⊥) → IsGreatest marks place (k + 1) mark
best_new marks place k mark at covers below = record {
  at = (k, at);
  covers = covers;
  greatest =
      λ i p l g c.
      ⊎_elim
      (λ (less : i < k). below i p less g c)
      (λ (one : mark ≡ p). subst (λ z. Less mark.id z.id → ⊥) one (less_irrefl mark.id))
      (at_first marks k i mark p l at g);
}

pub more_skipped : (marks : List PlacedMark) (place k : ℕ) (mark : PlacedMark) (best : Option PlacedMark) → slice_get marks k ≡ Some mark → (CoversPlace mark place → ⊥) → IsBest marks place k best → IsBest marks place (k + 1) best
more_skipped marks place k mark None at not none =
    λ i p l g covers.
    ⊎_elim
    (λ (less : i < k). none i p less g covers)
    (λ (one : mark ≡ p). not (subst (λ z. CoversPlace z place) (sym one) covers))
    (at_first marks k i mark p l at g)
more_skipped marks place k mark (Some b) at not best = best_keeps marks place k mark b at best (λ c. absurd (not c))

pub more_best : (marks : List PlacedMark) (place k : ℕ) (mark r : PlacedMark) (best : Option PlacedMark) → slice_get marks k ≡ Some mark → CoversPlace mark place → MatchOption best (r ≡ mark) (λ b. ((r ≡ b) × (Less b.id mark.id → ⊥)) ⊎ ((r ≡ mark) × Less b.id mark.id)) → IsBest marks place k best → IsBest marks place (k + 1) (Some r)
more_best marks place k mark r None at covers is none =
    subst (λ z. IsGreatest marks place (k + 1) z) (sym is) (best_new marks place k mark at covers (λ i p l g c. absurd (none i p l g c)))
more_best marks place k mark r (Some b) at covers (inl (is, not)) best =
    subst (λ z. IsGreatest marks place (k + 1) z) (sym is) (best_keeps marks place k mark b at best (λ c. not))
more_best marks place k mark r (Some b) at covers (inr (is, less)) best =
    subst (λ z. IsGreatest marks place (k + 1) z) (sym is)
    (best_new marks place k mark at covers (λ i p l g c h. best.greatest i p l g c (less_trans b.id mark.id p.id less h)))

-- ---- from places to the operations
-- a mark touches the character at a place exactly where it covers the place
pub touches_from_place : (ops : List Op) (es : List Element) → Shows es ops → (key : Key) (o : Op) (first last k : ℕ) (e : OpId) → IsOfKey key o → Lies es o first last → IsAt es e k → first ≤ k → k < last → Touches ops key e o
touches_from_place ops es h key (Insert id parent character) first last k e of_key lies at le less = absurd of_key
touches_from_place ops es h key (Remove id target) first last k e of_key lies at le less = absurd of_key
touches_from_place ops es h key (AddMark id attribute start end) first last k e of_key lies at le less =
    (of_key, (starts_from_place ops es h start first k e lies.0 at le, ends_from_place ops es h end last k e lies.1 at less))
touches_from_place ops es h key (RemoveMark id other start end) first last k e of_key lies at le less =
    (of_key, (starts_from_place ops es h start first k e lies.0 at le, ends_from_place ops es h end last k e lies.1 at less))
touches_from_place ops es h key (Revive id removal) first last k e of_key lies at le less = absurd of_key

pub place_from_touches : (ops : List Op) (es : List Element) → Shows es ops → (key : Key) (o : Op) (first last k : ℕ) (e : OpId) → Lies es o first last → IsAt es e k → Touches ops key e o → (first ≤ k) × (k < last)
place_from_touches ops es h key (Insert id parent character) first last k e lies at touches = absurd touches
place_from_touches ops es h key (Remove id target) first last k e lies at touches = absurd touches
place_from_touches ops es h key (AddMark id attribute start end) first last k e lies at touches =
    (place_from_starts ops es h start first k e lies.0 at touches.1.0, place_from_ends ops es h end last k e lies.1 at touches.1.1)
place_from_touches ops es h key (RemoveMark id other start end) first last k e lies at touches =
    (place_from_starts ops es h start first k e lies.0 at touches.1.0, place_from_ends ops es h end last k e lies.1 at touches.1.1)
place_from_touches ops es h key (Revive id removal) first last k e lies at touches = absurd touches

pub of_key_from_touches : (ops : List Op) (key : Key) (e : OpId) (o : Op) → Touches ops key e o → IsOfKey key o
of_key_from_touches ops key e (Insert id parent character) touches = absurd touches
of_key_from_touches ops key e (Remove id target) touches = absurd touches
of_key_from_touches ops key e (AddMark id attribute start end) touches = touches.0
of_key_from_touches ops key e (RemoveMark id other start end) touches = touches.0
of_key_from_touches ops key e (Revive id removal) touches = absurd touches

pub mark_from_key : (key : Key) (o : Op) → IsOfKey key o → is_mark o ≡ true
mark_from_key key (Insert id parent character) of_key = absurd of_key
mark_from_key key (Remove id target) of_key = absurd of_key
mark_from_key key (AddMark id attribute start end) of_key = refl
mark_from_key key (RemoveMark id other start end) of_key = refl
mark_from_key key (Revive id removal) of_key = absurd of_key

-- two operations that decide are one
pub one_decides : (ops : List Op) → ((o p : Op) → Contains ops o → Contains ops p → id_of o ≡ id_of p → o ≡ p) → (key : Key) (e : OpId) (o p : Op) → Decides ops key e o → Decides ops key e p → o ≡ p
one_decides ops distinct key e o p d f =
    distinct o p d.held f.held
    (⊎_elim
    (λ (l : Less (id_of o) (id_of p)). absurd (d.greatest p f.held f.touches l))
    (λ (r : (id_of o ≡ id_of p) ⊎ Less (id_of p) (id_of o)).
    ⊎_elim
    (λ (same : id_of o ≡ id_of p). same)
    (λ (l : Less (id_of p) (id_of o)). absurd (f.greatest o d.held d.touches l))
    r)
    (less_cases (id_of o) (id_of p)))

module _ (ops : List Op) (es : List Element) (operations : List Op) (marks : List PlacedMark) (key : Key) (e : OpId) (place : ℕ)
    (h : Shows es ops) (are : AreMarks ops operations) (placed : ArePlaced es operations key marks) (at : IsAt es e place) where
  -- each operation that touches the character is a placed mark that covers the place
  covering : (o : Op) → Contains ops o → Touches ops key e o → (i : ℕ) × ((p : PlacedMark) × (slice_get marks i ≡ Some p) × CoversPlace p place × (p.id ≡ id_of o))
  covering o held touches =
      let of_key = of_key_from_touches ops key e o touches in
      let j = contains_at operations o (are.listed o held (mark_from_key key o of_key)) in
      let r = placed.listed j.0 o (slice_get_within operations j.0 o j.1) j.1 of_key in
      let q = placed.placed r.0 r.1.0 r.1.1 in
      let same : q.0 ≡ o = same_Some q.0 o (sym q.1 ∙ ap (slice_get operations) r.1.2 ∙ j.1) in (
        r.0,
        (
          r.1.0,
          r.1.1,
          place_from_touches ops es h key o r.1.0.start r.1.0.end place e (subst (λ z. Lies es z r.1.0.start r.1.0.end) same q.2.lies) at touches,
          q.2.id ∙ ap id_of same,
        ),
      )

  decides_from_best : (b : PlacedMark) → IsGreatest marks place (length marks) b → (o : Op) → slice_get operations b.index ≡ Some o → Decides ops key e o
  decides_from_best b best o index =
      let q = placed.placed best.at.0 b best.at.1 in
      let same : q.0 ≡ o = same_Some q.0 o (sym q.1 ∙ index) in
      let lies : Lies es o b.start b.end = subst (λ z. Lies es z b.start b.end) same q.2.lies in
      let id : b.id ≡ id_of o = q.2.id ∙ ap id_of same in
      record {
        held = are.held o (contains_from operations b.index o index);
        touches = touches_from_place ops es h key o b.start b.end place e (subst (IsOfKey key) same q.2.of_key) lies at best.covers.0 best.covers.1;
        greatest =
            λ p held touches less.
            let r = covering p held touches in
            best.greatest r.0 r.1.0 (slice_get_within marks r.0 r.1.0 r.1.1) r.1.1 r.1.2
            (subst (λ z. Less b.id z) (sym r.1.3) (subst (λ z. Less z (id_of p)) (sym id) less));
      }

  key_from_added : (o : Op) (a : Attribute) → Touches ops key e o → added o ≡ Some a → key_of a ≡ key
  key_from_added (Insert id parent character) a touches is = absurd touches
  key_from_added (Remove id target) a touches is = absurd touches
  key_from_added (AddMark id attribute start end) a touches is = ap key_of (sym (same_Some attribute a is)) ∙ touches.0
  key_from_added (RemoveMark id other start end) a touches is = absurd (none-some a is)
  key_from_added (Revive id removal) a touches is = absurd touches

  -- no mark covers the place
  pub value_none : ((i : ℕ) (p : PlacedMark) → i < length marks → slice_get marks i ≡ Some p → CoversPlace p place → ⊥) → IsValue ops key e None
  value_none none = record {
    some = λ a is. absurd (none-some a is);
    all =
        λ a of_key bears.
        let d : Decides ops (key_of a) e bears.0 = bears.1 in
        let r = covering bears.0 d.held (subst (λ z. Touches ops z e bears.0) of_key d.touches) in
        absurd (none r.0 r.1.0 (slice_get_within marks r.0 r.1.0 r.1.1) r.1.1 r.1.2);
  }

  -- the greatest of those that cover it decides
  pub value_some : (b : PlacedMark) → IsGreatest marks place (length marks) b → (o : Op) → slice_get operations b.index ≡ Some o → IsValue ops key e (added o)
  value_some b best o index =
      let decides = decides_from_best b best o index in
      record {
        some =
            λ a is.
            let of_key : key_of a ≡ key = key_from_added o a decides.touches is in
            (of_key, (o, subst (λ z. Decides ops z e o) (sym of_key) decides, is));
        all =
            λ a of_key bears.
            let one : bears.0 ≡ o = one_decides ops h.distinct key e bears.0 o (subst (λ z. Decides ops z e bears.0) of_key bears.1) decides in
            ap added (sym one) ∙ bears.2;
      }

-- only an operation that adds a mark adds an attribute
pub added_none : (o : Op) → ((id : OpId) (attribute : Attribute) (start end : Anchor) → o ≡ AddMark id attribute start end → ⊥) → added o ≡ None
added_none (Insert id parent character) not = refl
added_none (Remove id target) not = refl
added_none (AddMark id attribute start end) not = absurd (not id attribute start end refl)
added_none (RemoveMark id other start end) not = refl
added_none (Revive id removal) not = refl

key_added : (key : Key) (o : Op) (a : Attribute) → IsOfKey key o → added o ≡ Some a → key_of a ≡ key
key_added key (Insert id parent character) a of_key is = absurd of_key
key_added key (Remove id target) a of_key is = absurd of_key
key_added key (AddMark id attribute start end) a of_key is = ap key_of (sym (same_Some attribute a is)) ∙ of_key
key_added key (RemoveMark id other start end) a of_key is = absurd (none-some a is)
key_added key (Revive id removal) a of_key is = absurd of_key

-- what a mark's operation adds is of the marks' key
pub key_of_added : (es : List Element) (operations : List Op) (marks : List PlacedMark) (key : Key) → ArePlaced es operations key marks → (i : ℕ) (mark : PlacedMark) → slice_get marks i ≡ Some mark → (o : Op) → slice_get operations mark.index ≡ Some o → (a : Attribute) → added o ≡ Some a → key_of a ≡ key
key_of_added es operations marks key placed i mark at o index a adds =
    let q = placed.placed i mark at in
    key_added key o a (subst (IsOfKey key) (same_Some q.0 o (sym q.1 ∙ index)) q.2.of_key) adds
