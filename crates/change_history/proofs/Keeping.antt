-- How the parts go on from one accepted operation to the next.
use Rattle.std.proofs.Common.{◌≡◌, ℕ, ◌<◌, ◌≤◌, List, [], ◌∷◌, ◌++◌, Bool, true, false, Option, Some, MatchOption, Result, Ok, Err, IfOk, sym, ap, ◌∙◌, subst, inl, arith, rules, length, cond}
use Rattle.std.proofs.lemmas.Bool.{false≢true}
use Rattle.std.specs.List.{filter, count_by, Contains}
use Rattle.std.proofs.lemmas.List.Elements.{filter-append}
use Rattle.std.proofs.lemmas.List.Sums.{length-filter}
use Rattle.change_ops.specs.declared.id.OpId.{OpId}
use Rattle.change_ops.specs.declared.operation.Op.{Op}
use Rattle.change_ops.specs.declared.operation.Op.TheVariants.{Insert, Remove, Revive}
use Rattle.change_ops.specs.Operations.{id_of, is_edit, is_mark}
use Rattle.char_sequence.specs.Acceptance.{Used, Accepts}
use Rattle.char_sequence.specs.Newest.{IsNewest}
use Rattle.char_sequence.specs.declared.sequence.Element.{Element}
use Rattle.char_sequence.specs.Tree.{Present}
use Rattle.char_sequence.specs.Order.{Shows, IsAt}
use Rattle.char_sequence.specs.Held.{Holds}
use Rattle.mark_anchors.specs.Marks.{AreMarks}
use Rattle.mark_places.specs.Places.{AreMarkPlaces}
use Rattle.version_laws.proofs.Put.{DiffersInOne, removal_hides, revival_shows}
use Rattle.change_history.specs.declared.parts.Parts.{Parts}
use Rattle.change_history.specs.Accepted.{IsMarkTooMany}
use Rattle.change_history.specs.Kept.{Keeps}
use Rattle.char_sequence.proofs.Holding.{shows_other}
use Rattle.mark_places.proofs.Filters.{kept_was, kept_passes, is_kept}
use Rattle.change_history.proofs.Placing.{places_hidden}
use Rattle.change_ops.specs.declared.size.Size.{Size}
use Rattle.change_ops.specs.declared.size.Size.TheVariants.{Large}

-- one more operation, which passes or doesn't
pub filter_push_yes : {X : Type 0} (p : X → Bool) (xs : List X) (y : X) → p y ≡ true → filter p (xs ++ y ∷ []) ≡ filter p xs ++ y ∷ []
filter_push_yes p xs y passes = filter-append p xs (y ∷ []) ∙ ap (λ b. filter p xs ++ cond b (y ∷ []) []) passes

pub filter_push_no : {X : Type 0} (p : X → Bool) (xs : List X) (y : X) → p y ≡ false → filter p (xs ++ y ∷ []) ≡ filter p xs
filter_push_no p xs y fails = filter-append p xs (y ∷ []) ∙ ap (λ b. filter p xs ++ cond b (y ∷ []) []) fails ∙ search rules

-- ---- the parts after an operation
pub keeps_edit : (ops : List Op) (op : Op) (old new : Parts) → is_edit op ≡ true → is_mark op ≡ false → Keeps ops old → new.marks ≡ old.marks → IsNewest (ops ++ op ∷ []) new.newest → Shows new.sequence.elements (ops ++ op ∷ []) → Holds new.sequence (filter is_edit ops ++ op ∷ []) → AreMarkPlaces new.sequence.elements old.marks new.places → Keeps (ops ++ op ∷ []) new
keeps_edit ops op old new edit fails k marks newest shows held places = record {
  shows = shows;
  held = subst (λ (xs : List Op). Holds new.sequence xs) (sym (filter_push_yes is_edit ops op edit)) held;
  marks = marks ∙ k.marks ∙ sym (filter_push_no is_mark ops op fails);
  places = subst (λ (xs : List Op). AreMarkPlaces new.sequence.elements xs new.places) (sym marks) places;
  newest = newest;
}

-- an operation that changes one element where it stands
keeps_moved : {A E : Type 0} (r : Result A E) (ops : List Op) (op : Op) (old new : Parts) → is_edit op ≡ true → is_mark op ≡ false → Keeps ops old → new.marks ≡ old.marks → new.places ≡ old.places → IsNewest (ops ++ op ∷ []) new.newest → (Shows new.sequence.elements (ops ++ op ∷ []) → DiffersInOne old.sequence.elements new.sequence.elements) → IfOk r (λ _. Shows new.sequence.elements (ops ++ op ∷ [])) → IfOk r (λ _. Holds new.sequence (filter is_edit ops ++ op ∷ [])) → IfOk r (λ _. Keeps (ops ++ op ∷ []) new)
keeps_moved (Ok a) ops op old new edit mark k marks same newest differs shows held =
    keeps_edit ops op old new edit mark k marks newest shows held
    (subst (λ ps. AreMarkPlaces new.sequence.elements old.marks ps) (sym same)
    (places_hidden old.sequence.elements new.sequence.elements old.marks old.places (differs shows) k.places))
keeps_moved (Err e) ops op old new edit mark k marks same newest differs shows held = tt

module _ {size : Size} where
  pub keeps_removal : {A E : Type 0} (r : Result A E) (ops : List Op) (op : Op) (id target : OpId) (old new : Parts) → op ≡ Remove id target → Keeps ops old → Accepts size ops op → new.marks ≡ old.marks → new.places ≡ old.places → IsNewest (ops ++ op ∷ []) new.newest → IfOk r (λ _. Shows new.sequence.elements (ops ++ op ∷ [])) → IfOk r (λ _. Holds new.sequence (filter is_edit ops ++ op ∷ [])) → IfOk r (λ _. Keeps (ops ++ op ∷ []) new)
  keeps_removal r ops op id target old new is k accepted marks same newest shows held =
      keeps_moved r ops op old new (ap is_edit is) (ap is_mark is) k marks same newest
      (λ shown. removal_hides ops old.sequence.elements new.sequence.elements op id target is k.shows accepted shown) shows held

  pub keeps_revival : {A E : Type 0} (r : Result A E) (ops : List Op) (op : Op) (id removal : OpId) (old new : Parts) → op ≡ Revive id removal → Keeps ops old → Accepts size ops op → new.marks ≡ old.marks → new.places ≡ old.places → IsNewest (ops ++ op ∷ []) new.newest → IfOk r (λ _. Shows new.sequence.elements (ops ++ op ∷ [])) → IfOk r (λ _. Holds new.sequence (filter is_edit ops ++ op ∷ [])) → IfOk r (λ _. Keeps (ops ++ op ∷ []) new)
  keeps_revival r ops op id removal old new is k accepted marks same newest shows held =
      keeps_moved r ops op old new (ap is_edit is) (ap is_mark is) k marks same newest
      (λ shown. revival_shows ops old.sequence.elements new.sequence.elements op id removal is k.shows accepted shown) shows held

pub keeps_mark : {A E : Type 0} (r : Result A E) (ops : List Op) (op : Op) (old new : Parts) → is_edit op ≡ false → is_mark op ≡ true → Keeps ops old → new.sequence ≡ old.sequence → IsNewest (ops ++ op ∷ []) new.newest → Shows old.sequence.elements (ops ++ op ∷ []) → IfOk r (λ _. new.marks ≡ old.marks ++ op ∷ []) → IfOk r (λ _. AreMarkPlaces old.sequence.elements (old.marks ++ op ∷ []) new.places) → IfOk r (λ _. Keeps (ops ++ op ∷ []) new)
keeps_mark (Ok a) ops op old new fails mark k same newest shows marks places = record {
  shows = subst (λ s. Shows s.elements (ops ++ op ∷ [])) (sym same) shows;
  held =
      subst (λ (xs : List Op). Holds new.sequence xs) (sym (filter_push_no is_edit ops op fails))
      (subst (λ s. Holds s (filter is_edit ops)) (sym same) k.held);
  marks = marks ∙ ap (λ (xs : List Op). xs ++ op ∷ []) k.marks ∙ sym (filter_push_yes is_mark ops op mark);
  places =
      subst (λ s. AreMarkPlaces s.elements new.marks new.places) (sym same)
      (subst (λ (xs : List Op). AreMarkPlaces old.sequence.elements xs new.places) (sym marks) places);
  newest = newest;
}
keeps_mark (Err e) ops op old new fails mark k same newest shows marks places = tt

module _ {size : Size} where
  -- the id of an accepted operation is new among the marks
  pub fresh_mark : (ops : List Op) (op : Op) (marks : List Op) → marks ≡ filter is_mark ops → Accepts size ops op → (o : Op) → Contains marks o → id_of o ≡ id_of op → ⊥
  fresh_mark ops op marks e a o held same =
      a.fresh (inl (o, kept_was is_mark ops o (subst (λ (xs : List Op). Contains xs o) e held), ap (λ (i : OpId). i.node) same, subst (λ (n : ℕ). n ≤ (id_of o).counter) (ap (λ (i : OpId). i.counter) same) search rules))

  pub unused_of : (ops : List Op) (op : Op) (id : OpId) → id ≡ id_of op → Accepts size ops op → Used ops id → ⊥
  unused_of ops op id e a used = a.fresh (inl (subst (λ (i : OpId). Used ops i) e used))

pub mark_room : (ops : List Op) (op : Op) (marks : List Op) → marks ≡ filter is_mark ops → is_mark op ≡ true → (IsMarkTooMany Large ops op → ⊥) → length marks < 16384
mark_room ops op marks e mark room =
    let same : length marks ≡ count_by is_mark ops = ap length e ∙ length-filter is_mark ops in
    let few : 16384 ≤ count_by is_mark ops → ⊥ = λ many. room (mark, many) in
    grind arith

pub no_insert : (op : Op) → is_edit op ≡ false → (x : OpId) (p : Option OpId) (c : ℕ) → op ≡ Insert x p c → ⊥
no_insert op fails x p c e = false≢true (sym fails ∙ ap is_edit e)

pub no_remove : (op : Op) → is_edit op ≡ false → (r x : OpId) → op ≡ Remove r x → ⊥
no_remove op fails r x e = false≢true (sym fails ∙ ap is_edit e)

pub no_revive : (op : Op) → is_edit op ≡ false → (v r : OpId) → op ≡ Revive v r → ⊥
no_revive op fails v r e = false≢true (sym fails ∙ ap is_edit e)

module _ {size : Size} where
  pub shows_mark : (ops : List Op) (op : Op) (es : List Element) → is_edit op ≡ false → Shows es ops → Accepts size ops op → Shows es (ops ++ op ∷ [])
  shows_mark ops op es fails shows a = shows_other ops es op a (no_insert op fails) (no_remove op fails) (no_revive op fails) shows

-- the marks kept are the mark operations among all
pub are_marks : (ops marks : List Op) → marks ≡ filter is_mark ops → AreMarks ops marks
are_marks ops marks e = subst (λ (xs : List Op). AreMarks ops xs) (sym e) (record {
  held = λ o h. kept_was is_mark ops o h;
  marking = λ o h. kept_passes is_mark ops o h;
  listed = λ o h m. is_kept is_mark ops o m h;
})

-- what has a place was inserted
pub placed : (ops : List Op) (es : List Element) (id : OpId) (place : ℕ) (found : Option ℕ) → Shows es ops → found ≡ Some place → MatchOption found (Present ops id → ⊥) (λ k. IsAt es id k) → Present ops id
placed ops es id place found shows here told =
    let at : IsAt es id place = subst (λ (r : Option ℕ). MatchOption r (Present ops id → ⊥) (λ k. IsAt es id k)) here told in
    let inserted = shows.text.inserted place at.0 at.1 in
    (inserted.0, (at.0.character, subst (λ (x : OpId). Contains ops (Insert x inserted.0 at.0.character)) at.2 inserted.1))
