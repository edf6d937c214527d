-- The format of a character is told by the elements and the marks, whichever operations made them.
use Rattle.std.proofs.Common.{◌≡◌, ℕ, ◌+◌, true, List, inl, inr, length, refl}
use Rattle.std.specs.List.{Contains}
use Rattle.std.proofs.lemmas.Bool.{false≢true}
use Rattle.change_ops.specs.Operations.{AnchorNames, is_mark, key_of}
use Rattle.change_ops.specs.declared.id.OpId.{OpId}
use Rattle.change_ops.specs.declared.attribute.Key.{Key}
use Rattle.change_ops.specs.declared.attribute.Attribute.{Attribute}
use Rattle.change_ops.specs.declared.operation.Anchor.{Anchor}
use Rattle.change_ops.specs.declared.operation.Anchor.TheVariants.{TextStart, BeforeCharacter, AfterCharacter, TextEnd}
use Rattle.change_ops.specs.declared.operation.Op.{Op}
use Rattle.change_ops.specs.declared.operation.Op.TheVariants.{Insert, Remove, AddMark, RemoveMark, Revive}
use Rattle.char_sequence.specs.declared.sequence.Element.{Element}
use Rattle.char_sequence.specs.Order.{IsAt, Shows}
use Rattle.char_sequence.specs.Tree.{Present}
use Rattle.char_sequence.proofs.Steps.{stands}
use Rattle.mark_anchors.specs.Format.{Bears, Decides, IsFormat, Touches}
use Rattle.mark_anchors.specs.Formatting.{Format}
use Rattle.mark_anchors.specs.Marks.{AreMarks}
use Rattle.mark_anchors.specs.Places.{IsBoundary, Lies}
use Rattle.mark_anchors.proofs.Deciding.{mark_from_key, of_key_from_touches, place_from_touches, touches_from_place}
use Rattle.mark_anchors.proofs.FormatLaws.{format_carried}

-- ---- where a mark's anchors stand
some_boundary : (ops : List Op) (es : List Element) → Shows es ops → (anchor : Anchor) → ((x : OpId) → AnchorNames anchor x → Present ops x) → (n : ℕ) × IsBoundary es anchor n
some_boundary ops es shows TextStart named = (0, refl)
some_boundary ops es shows (BeforeCharacter x) named = stands ops es shows.text x (named x refl)
some_boundary ops es shows (AfterCharacter x) named = let at = stands ops es shows.text x (named x refl) in (at.0 + 1, (at.0, at.1, refl))
some_boundary ops es shows TextEnd named = (length es, refl)

lies_somewhere : (ops : List Op) (es : List Element) → Shows es ops → (o : Op) → Contains ops o → is_mark o ≡ true → (first : ℕ) × ((last : ℕ) × Lies es o first last)
lies_somewhere ops es shows (Insert id parent character) held mark = absurd (false≢true mark)
lies_somewhere ops es shows (Remove id target) held mark = absurd (false≢true mark)
lies_somewhere ops es shows (Revive id removal) held mark = absurd (false≢true mark)
lies_somewhere ops es shows (AddMark id attribute start end) held mark =
    let first = some_boundary ops es shows start (λ x names. shows.named (AddMark id attribute start end) x held (inl names)) in
    let last = some_boundary ops es shows end (λ x names. shows.named (AddMark id attribute start end) x held (inr names)) in
    (first.0, (last.0, (first.1, last.1)))
lies_somewhere ops es shows (RemoveMark id key start end) held mark =
    let first = some_boundary ops es shows start (λ x names. shows.named (RemoveMark id key start end) x held (inl names)) in
    let last = some_boundary ops es shows end (λ x names. shows.named (RemoveMark id key start end) x held (inr names)) in
    (first.0, (last.0, (first.1, last.1)))

-- ---- two sets of operations that show the elements and have the marks
module _ (es : List Element) (marks ops others : List Op) (shows : Shows es ops) (are : AreMarks ops marks) (shown : Shows es others) (also : AreMarks others marks) (e : OpId) (place : ℕ) (at : IsAt es e place) where
  held_across : (key : Key) (o : Op) → Contains ops o → Touches ops key e o → Contains others o
  held_across key o held touches = also.held o (are.listed o held (mark_from_key key o (of_key_from_touches ops key e o touches)))

  touches_across : (key : Key) (o : Op) → Contains ops o → Touches ops key e o → Touches others key e o
  touches_across key o held touches =
      let of_key = of_key_from_touches ops key e o touches in
      let lies = lies_somewhere ops es shows o held (mark_from_key key o of_key) in
      let covered = place_from_touches ops es shows key o lies.0 lies.1.0 place e lies.1.1 at touches in
      touches_from_place others es shown key o lies.0 lies.1.0 place e of_key lies.1.1 at covered.0 covered.1

bears_across : (es : List Element) (marks ops others : List Op) (shows : Shows es ops) (are : AreMarks ops marks) (shown : Shows es others) (also : AreMarks others marks) (e : OpId) (place : ℕ) (at : IsAt es e place)
    → (a : Attribute) → Bears ops e a → Bears others e a
bears_across es marks ops others shows are shown also e place at a bears =
    let d : Decides ops (key_of a) e bears.0 = bears.1 in
    let decides : Decides others (key_of a) e bears.0 = record {
      held = held_across es marks ops others shows are shown also e place at (key_of a) bears.0 d.held d.touches;
      touches = touches_across es marks ops others shows are shown also e place at (key_of a) bears.0 d.held d.touches;
      greatest =
          λ p held touches.
          d.greatest p (held_across es marks others ops shown also shows are e place at (key_of a) p held touches)
          (touches_across es marks others ops shown also shows are e place at (key_of a) p held touches);
    } in
    (bears.0, decides, bears.2)

pub format_across : (es : List Element) (marks ops others : List Op) → Shows es ops → AreMarks ops marks → Shows es others → AreMarks others marks → (e : OpId) (place : ℕ) → IsAt es e place
    → (f : Format) → IsFormat ops e f → IsFormat others e f
format_across es marks ops others shows are shown also e place at =
    format_carried ops others e e (bears_across es marks ops others shows are shown also e place at) (bears_across es marks others ops shown also shows are e place at)
