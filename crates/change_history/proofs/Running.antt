-- The inserts of a run are applied piece after piece.
use Rattle.std.proofs.Common.{inr, inl, ⊎_elim, true, false, ◌≡◌, ℕ, zero, suc, ◌+◌, ◌-◌, ◌<◌, ◌≤◌, List, [], ◌∷◌, ◌++◌, Option, Some, length, take, drop, refl, sym, ap, ◌∙◌, subst, arith, append_assoc}
use Rattle.std.specs.List.{count_by, slice_get, filter, Contains}
use Rattle.std.specs.Prelude.{encode_utf8_all}
use Rattle.std.proofs.lemmas.List.{append-nil, length-drop}
use Rattle.std.proofs.lemmas.List.Elements.{filter-append, Contains-push, Contains-push_cases}
use Rattle.std.proofs.lemmas.Bool.{cases_lt, false≢true}
use Rattle.std.proofs.lemmas.Option.{none-some, same_Some, slice_get_within}
use Rattle.change_ops.specs.declared.id.OpId.{OpId}
use Rattle.change_ops.specs.declared.operation.Op.{Op}
use Rattle.change_ops.specs.declared.operation.Op.TheVariants.{Insert}
use Rattle.change_ops.specs.declared.line.Line.TheVariants.{Run}
use Rattle.change_ops.specs.Operations.{id_of, is_insert, is_edit, is_mark, Names, NamesRemoval}
use Rattle.change_ops.specs.Runs.{next_id, inserts_from}
use Rattle.change_ops.proofs.SpelledLines.{ops_count}
use Rattle.char_sequence.specs.Acceptance.{Used, IsStale, NamesId, HasNoRoom, Accepts}
use Rattle.char_sequence.specs.Held.{Holds}
use Rattle.char_sequence.specs.Newest.{IsNewest}
use Rattle.char_sequence.specs.Order.{Shows}
use Rattle.char_sequence.specs.RunElements.{later_id, AcceptsRun}
use Rattle.char_sequence.proofs.Ids.{same_ids}
use Rattle.char_sequence.proofs.RunHeld.{run_noted}
use Rattle.char_sequence.proofs.RunKept.{run_accepted_only}
use Rattle.char_sequence.proofs.RunPlaced.{accepts_run_other}
use Rattle.char_sequence.proofs.RunSteps.{later_zero}
use Rattle.mark_places.specs.Places.{AreMarkPlaces}
use Rattle.change_history.specs.declared.parts.Parts.{Parts}
use Rattle.change_history.specs.Accepted.{AllFollow}
use Rattle.change_history.specs.Kept.{Keeps, StandAt, IsApplied, parent_at}
use Rattle.change_history.proofs.Chronicle.{take_push}
use Rattle.change_history.proofs.Edits.{inserts_counted}
use Rattle.mark_places.proofs.Filters.{kept_was, is_kept}
use Rattle.change_ops.specs.declared.size.Size.{Size}
use Rattle.change_ops.specs.declared.size.Size.TheVariants.{Large}
use Rattle.change_ops.specs.Sizes.{most_characters, most_bytes}
use Rattle.char_sequence.specs.Tree.{Present}
use Rattle.char_sequence.specs.Visible.{visible_text}
use Rattle.char_sequence.proofs.Holding.{count_push}
use Rattle.char_sequence.proofs.OneOrder.{one_text_of_set}
use Rattle.change_history.specs.Tally.{AreShort}

-- ---- the inserts of a run
run_count : (id : OpId) (parent : Option OpId) (cs : List ℕ) → length (inserts_from id parent cs) ≡ length cs
run_count id parent cs = ops_count (Run (record { id = id; parent = parent; characters = cs }))

edits_of_run : (cs : List ℕ) (id : OpId) (parent : Option OpId) → filter is_edit (inserts_from id parent cs) ≡ inserts_from id parent cs
unfolding inserts_from
edits_of_run [] id parent = refl
edits_of_run (c ∷ cs) id parent = ap (λ l. Insert id parent c ∷ l) (edits_of_run cs (next_id id) (Some id))

marks_of_run : (cs : List ℕ) (id : OpId) (parent : Option OpId) → filter is_mark (inserts_from id parent cs) ≡ []
unfolding inserts_from
marks_of_run [] id parent = refl
marks_of_run (c ∷ cs) id parent = marks_of_run cs (next_id id) (Some id)

front_of_run : (cs : List ℕ) (id : OpId) (parent : Option OpId) (n : ℕ) → inserts_from id parent (take n cs) ≡ take n (inserts_from id parent cs)
unfolding inserts_from
front_of_run [] id parent zero = refl
front_of_run [] id parent (suc n) = refl
front_of_run (c ∷ cs) id parent zero = refl
front_of_run (c ∷ cs) id parent (suc n) = ap (λ l. Insert id parent c ∷ l) (front_of_run cs (next_id id) (Some id) n)

next_later : (id : OpId) (k : ℕ) → later_id id (suc k) ≡ later_id (next_id id) k
next_later id k = same_ids (later_id id (suc k)) (later_id (next_id id) k) (omega arith) refl

next_parent : (id : OpId) (parent : Option OpId) (k : ℕ) → parent_at id parent (suc k) ≡ parent_at (next_id id) (Some id) k
next_parent id parent zero = ap Some (later_zero id)
next_parent id parent (suc k) = ap Some (next_later id k)

-- those from an index on are the inserts of a run too
back_of_run : (cs : List ℕ) (id : OpId) (parent : Option OpId) (k i : ℕ) (op : Op) → slice_get (inserts_from (later_id id k) (parent_at id parent k) (drop k cs)) i ≡ Some op → slice_get (inserts_from id parent cs) (k + i) ≡ Some op
unfolding inserts_from
back_of_run cs id parent zero i op g =
    let same : zero + i ≡ i = omega arith in
    ap (slice_get (inserts_from id parent cs)) same ∙ subst (λ z. slice_get (inserts_from z parent cs) i ≡ Some op) (later_zero id) g
back_of_run [] id parent (suc k) i op g = absurd (none-some op g)
back_of_run (c ∷ cs) id parent (suc k) i op g =
    let same : suc k + i ≡ suc (k + i) = omega arith in
    ap (slice_get (Insert id parent c ∷ inserts_from (next_id id) (Some id) cs)) same
    ∙ back_of_run cs (next_id id) (Some id) k i op
    (subst (λ z. slice_get (inserts_from (later_id (next_id id) k) z (drop k cs)) i ≡ Some op) (next_parent id parent k)
    (subst (λ z. slice_get (inserts_from z (parent_at id parent (suc k)) (drop k cs)) i ≡ Some op) (next_later id k) g))

pub rest_stands : (added : List Op) (from k : ℕ) (id : OpId) (parent : Option OpId) (cs : List ℕ) → StandAt added from (inserts_from id parent cs) → StandAt added (from + k) (inserts_from (later_id id k) (parent_at id parent k) (drop k cs))
rest_stands added from k id parent cs stand i op g =
    let same : from + k + i ≡ from + (k + i) = omega arith in
    ap (slice_get added) same ∙ stand (k + i) op (back_of_run cs id parent k i op g)

-- ---- operations that stand among others
reaches : {X : Type 0} (xs : List X) (i : ℕ) → i < length xs → (x : X) × (slice_get xs i ≡ Some x)
reaches [] i low = absurd (omega arith)
reaches (x ∷ xs) zero low = (x, refl)
reaches (x ∷ xs) (suc i) low = reaches xs i (omega arith)

taken_on : (added next : List Op) (at i : ℕ) → StandAt added at next → i ≤ length next → take (at + i) added ≡ take at added ++ take i next
taken_on added next at zero stand low =
    let same : at + 0 ≡ at = omega arith in
    ap (λ n. take n added) same ∙ sym (append-nil (take at added))
taken_on added next at (suc i) stand low =
    let x = reaches next i (omega arith) in
    let on : at + suc i ≡ at + i + 1 = omega arith in
    let one : i + 1 ≡ suc i = omega arith in
    ap (λ n. take n added) on
    ∙ take_push added (at + i) x.0 (stand i x.0 x.1)
    ∙ ap (λ l. l ++ x.0 ∷ []) (taken_on added next at i stand (omega arith))
    ∙ append_assoc (take at added) (take i next) (x.0 ∷ [])
    ∙ ap (λ l. take at added ++ l) (sym (take_push next i x.0 x.1))
    ∙ ap (λ n. take at added ++ take n next) one

-- ---- acceptance
pub accepts_next : (ops added : List Op) (at : ℕ) (parts : Parts) (id : OpId) (parent : Option OpId) (cs : List ℕ) → 0 < length cs → IsApplied ops added at parts → StandAt added at (inserts_from id parent cs) → AcceptsRun Large (ops ++ take at added) id parent cs
accepts_next ops added at parts id parent [] some a stand = absurd (omega arith)
accepts_next ops added at parts id parent (c ∷ cs) some a stand =
    let next = inserts_from id parent (c ∷ cs) in
    run_accepted_only cs c (ops ++ take at added) id parent
    (λ i op g.
    let here = stand i op g in
    let low = slice_get_within next i op g in
    subst (λ l. Accepts Large l op) (ap (λ l. ops ++ l) (taken_on added next at i stand (omega (arith, low))) ∙ sym (append_assoc ops (take at added) (take i next)))
    (a.follow (at + i) op (slice_get_within added (at + i) op here) here).accepted)

module _ {size : Size} where
  accepts_edits : (ops : List Op) (parts : Parts) (id : OpId) (parent : Option OpId) (cs : List ℕ) → Keeps ops parts → AcceptsRun size ops id parent cs → AcceptsRun size (filter is_edit ops) id parent cs
  accepts_edits ops parts id parent cs k a = record {
    fresh = λ used. a.fresh (used.0, kept_was is_edit ops used.0 used.1, used.2, used.3);
    above = a.above;
    known = λ x e. let there = a.known x e in (there.0, (there.1.0, is_kept is_edit ops (Insert x there.0 there.1.0) refl there.1.1));
    room = let room = a.room in let same = inserts_counted ops in omega (arith, room, same);
    space =
        λ es shows.
        let edits = filter is_edit ops in
        let one : parts.sequence.elements ≡ es = one_text_of_set parts.sequence.elements es edits edits k.held.shows shows (record { forth = λ o h. h; back = λ o h. h }) in
        subst (λ xs. length (visible_text xs) + length (encode_utf8_all cs) ≤ most_bytes) one (a.space parts.sequence.elements k.shows);
  }

  pub accepts_held : (ops others : List Op) (parts : Parts) (id : OpId) (parent : Option OpId) (cs : List ℕ) → Keeps ops parts → AcceptsRun size ops id parent cs → Holds parts.sequence others → AcceptsRun size others id parent cs
  accepts_held ops others parts id parent cs k a h = accepts_run_other parts.sequence (filter is_edit ops) others id parent cs k.held h (accepts_edits ops parts id parent cs k a)

  -- the last id of a run's first characters is not used
  pub last_unused : (ops : List Op) (id last : OpId) (parent : Option OpId) (cs : List ℕ) (by : ℕ) → last ≡ later_id id by → AcceptsRun size ops id parent cs → Used ops last → ⊥
  last_unused ops id last parent cs by is a used =
      let u = subst (λ z. Used ops z) is used in
      let high : id.counter + by ≤ (id_of u.0).counter = u.3 in
      a.fresh (u.0, u.1, u.2, omega (arith, high))

-- ---- the parts after a piece
pub keeps_run : (ops : List Op) (id last : OpId) (parent : Option OpId) (cs : List ℕ) (old new : Parts) → 0 < length cs → last ≡ later_id id (length cs - 1) → Keeps ops old → new.marks ≡ old.marks → ((op : Op) → id_of op ≡ last → IsNewest (ops ++ op ∷ []) new.newest) → Shows new.sequence.elements (ops ++ inserts_from id parent cs) → Holds new.sequence (filter is_edit ops ++ inserts_from id parent cs) → AreMarkPlaces new.sequence.elements old.marks new.places → Keeps (ops ++ inserts_from id parent cs) new
keeps_run ops id last parent cs old new some is k marks noted shows held places =
    let run = inserts_from id parent cs in
    record {
      shows = shows;
      held = subst (λ xs. Holds new.sequence xs) (sym (filter-append is_edit ops run ∙ ap (λ l. filter is_edit ops ++ l) (edits_of_run cs id parent))) held;
      marks = marks ∙ k.marks ∙ sym (filter-append is_mark ops run ∙ ap (λ l. filter is_mark ops ++ l) (marks_of_run cs id parent) ∙ append-nil (filter is_mark ops));
      places = subst (λ xs. AreMarkPlaces new.sequence.elements xs new.places) (sym marks) places;
      newest =
          run_noted cs ops id parent new.newest some
          (λ op node counter.
          let same : (id_of op).counter ≡ id.counter + (length cs - 1) = omega (arith, counter, some) in
          noted op (same_ids (id_of op) (later_id id (length cs - 1)) same node ∙ sym is));
    }

pub applied_some : (ops added : List Op) (at n : ℕ) (old new : Parts) (id : OpId) (parent : Option OpId) (cs : List ℕ) → IsApplied ops added at old → StandAt added at (inserts_from id parent cs) → n ≤ length cs → Keeps ((ops ++ take at added) ++ inserts_from id parent (take n cs)) new → IsApplied ops added (at + n) new
applied_some ops added at n old new id parent cs a stand low kept =
    let count = run_count id parent cs in
    record {
      follow = a.follow;
      kept =
          subst (λ l. Keeps l new)
          (append_assoc ops (take at added) (inserts_from id parent (take n cs))
          ∙ ap (λ l. ops ++ (take at added ++ l)) (front_of_run cs id parent n)
          ∙ ap (λ l. ops ++ l) (sym (taken_on added (inserts_from id parent cs) at n stand (omega (arith, count, low)))))
          kept;
    }

-- ---- a piece of a run, by what a caller has read
pub piece_stands : (added : List Op) (from k : ℕ) (id at : OpId) (parent before : Option OpId) (cs rest : List ℕ) → at ≡ later_id id k → before ≡ parent_at id parent k → rest ≡ drop k cs → StandAt added from (inserts_from id parent cs) → StandAt added (from + k) (inserts_from at before rest)
piece_stands added from k id at parent before cs rest e f g stand =
    subst (λ (x : OpId × (Option OpId × List ℕ)). StandAt added (from + k) (inserts_from x.0 x.1.0 x.1.1)) (λ i. (sym e i, (sym f i, sym g i))) (rest_stands added from k id parent cs stand)

pub length_rest : (k : ℕ) (cs rest : List ℕ) → rest ≡ drop k cs → k ≤ length cs → k + length rest ≡ length cs
length_rest k cs rest is low = let size = ap length is ∙ length-drop k cs in omega (arith, size, low)

-- ---- a run that is admitted whole
no_mark : (cs : List ℕ) (id : OpId) (parent : Option OpId) (i : ℕ) (op : Op) → slice_get (inserts_from id parent cs) i ≡ Some op → is_mark op ≡ false
unfolding inserts_from
no_mark [] id parent i op g = absurd (none-some op g)
no_mark (c ∷ cs) id parent zero op g = ap is_mark (sym (same_Some (Insert id parent c) op g))
no_mark (c ∷ cs) id parent (suc i) op g = no_mark cs (next_id id) (Some id) i op g

names_none : (cs : List ℕ) (id : OpId) (parent : Option OpId) (i : ℕ) (op : Op) → slice_get (inserts_from id parent cs) i ≡ Some op → (r : OpId) → NamesRemoval op r → ⊥
unfolding inserts_from
names_none [] id parent i op g r names = absurd (none-some op g)
names_none (c ∷ cs) id parent zero op g r names = subst (λ o. NamesRemoval o r) (sym (same_Some (Insert id parent c) op g)) names
names_none (c ∷ cs) id parent (suc i) op g r names = names_none cs (next_id id) (Some id) i op g r names

-- what counting tells of an insert
record IsCounted (size : Size) (ops : List Op) (op : Op) : Type 0 where
  fresh : IsStale ops op → ⊥
  known : (x : OpId) → Names op x → Present ops x
  few : count_by is_insert ops < most_characters size

-- and of a run: all that its acceptance asks but room for its bytes
pub record IsRunCounted (size : Size) (ops : List Op) (id : OpId) (parent : Option OpId) (characters : List ℕ) : Type 0 where
  pub fresh : Used ops id → ⊥
  pub above : (x : OpId) → parent ≡ Some x → id.counter ≤ x.counter → ⊥
  pub known : (x : OpId) → parent ≡ Some x → Present ops x
  pub room : count_by is_insert ops + length characters ≤ most_characters size

module _ {size : Size} where
  first_counted : (ops : List Op) (id : OpId) (parent : Option OpId) (c : ℕ) (cs : List ℕ) → IsRunCounted size ops id parent (c ∷ cs) → IsCounted size ops (Insert id parent c)
  first_counted ops id parent c cs a = record {
    fresh =
        λ stale.
        ⊎_elim
        (λ (u : Used ops id). a.fresh u)
        (λ (u : (x : OpId) × NamesId (Insert id parent c) x × (id.counter ≤ x.counter)).
        ⊎_elim
        (λ (named : Names (Insert id parent c) u.0). a.above u.0 named u.2)
        (λ (none : NamesRemoval (Insert id parent c) u.0). absurd none)
        u.1)
        stale;
    known = λ x n. a.known x n;
    few = let room = a.room in omega (arith, room);
  }

  rest_counted : (ops : List Op) (id : OpId) (parent : Option OpId) (c : ℕ) (cs : List ℕ) → IsRunCounted size ops id parent (c ∷ cs) → IsRunCounted size (ops ++ Insert id parent c ∷ []) (next_id id) (Some id) cs
  rest_counted ops id parent c cs a = record {
    fresh =
        λ used.
        ⊎_elim
        (λ (old : Contains ops used.0). let le : id.counter + 1 ≤ (id_of used.0).counter = used.3 in a.fresh (used.0, old, used.2, omega arith))
        (λ (new : Insert id parent c ≡ used.0).
        let same : id.counter ≡ (id_of used.0).counter = ap (λ o. (id_of o).counter) new in
        let le : id.counter + 1 ≤ (id_of used.0).counter = used.3 in
        absurd (omega arith))
        (Contains-push_cases ops (Insert id parent c) used.0 used.1);
    above =
        λ x e le.
        let same : id.counter ≡ x.counter = ap (λ z. z.counter) (same_Some id x e) in
        let more : id.counter + 1 ≤ x.counter = le in
        absurd (omega arith);
    known = λ x e. subst (λ z. Present (ops ++ Insert id parent c ∷ []) z) (same_Some id x e) (parent, (c, Contains-push ops (Insert id parent c)));
    room =
        let have : count_by is_insert ops + length (c ∷ cs) ≤ most_characters size = a.room in
        let count : count_by is_insert (ops ++ Insert id parent c ∷ []) ≡ count_by is_insert ops + 1 = count_push is_insert ops (Insert id parent c) in
        omega arith;
  }

  run_counted : (cs : List ℕ) (ops : List Op) (id : OpId) (parent : Option OpId) → IsRunCounted size ops id parent cs → (i : ℕ) (op : Op) → slice_get (inserts_from id parent cs) i ≡ Some op → IsCounted size (ops ++ take i (inserts_from id parent cs)) op
  unfolding inserts_from
  run_counted [] ops id parent a i op g = absurd (none-some op g)
  run_counted (c ∷ cs) ops id parent a zero op g =
      subst (λ o. IsCounted size (ops ++ []) o) (same_Some (Insert id parent c) op g) (subst (λ l. IsCounted size l (Insert id parent c)) (sym (append-nil ops)) (first_counted ops id parent c cs a))
  run_counted (c ∷ cs) ops id parent a (suc i) op g =
      subst (λ l. IsCounted size l op) (append_assoc ops (Insert id parent c ∷ []) (take i (inserts_from (next_id id) (Some id) cs)))
      (run_counted cs (ops ++ Insert id parent c ∷ []) (next_id id) (Some id) (rest_counted ops id parent c cs a) i op g)

  -- where the first is accepted and there is room for all, the run is counted
  pub counted_by_first : (cs : List ℕ) (ops : List Op) (id : OpId) (parent : Option OpId) (op : Op) → slice_get (inserts_from id parent cs) 0 ≡ Some op → Accepts size ops op → count_by is_insert ops + length cs ≤ most_characters size → IsRunCounted size ops id parent cs
  unfolding inserts_from
  counted_by_first [] ops id parent op g a room = absurd (none-some op g)
  counted_by_first (c ∷ cs) ops id parent op g a room =
      let first : Accepts size ops (Insert id parent c) = subst (λ o. Accepts size ops o) (sym (same_Some (Insert id parent c) op g)) a in
      record {
        fresh = λ used. first.fresh (inl used);
        above = λ x e le. first.fresh (inr (x, inl e, le));
        known = λ x e. first.known x e;
        room = room;
      }

  -- the visible text has room for its characters
  pub follow_run : (ops added : List Op) (from : ℕ) (id : OpId) (parent : Option OpId) (cs : List ℕ) → AreShort size ops added → AllFollow size ops added from → StandAt added from (inserts_from id parent cs) → IsRunCounted size (ops ++ take from added) id parent cs → AllFollow size ops added (from + length (inserts_from id parent cs))
  follow_run ops added from id parent cs short before stand a = λ i op low g.
      let next = inserts_from id parent cs in
      ⊎_elim
      (λ (less : i < from). before i op less g)
      (λ (more : from ≤ i).
      let on : from + (i - from) ≡ i = omega arith in
      let x = reaches next (i - from) (omega arith) in
      let same : x.0 ≡ op = same_Some x.0 op (sym (stand (i - from) x.0 x.1) ∙ ap (slice_get added) on ∙ g) in
      let here : slice_get next (i - from) ≡ Some op = x.1 ∙ ap Some same in
      let one : IsCounted size (ops ++ take i added) op =
      subst (λ l. IsCounted size l op)
      (append_assoc ops (take from added) (take (i - from) next)
      ∙ ap (λ l. ops ++ l) (sym (taken_on added next from (i - from) stand (omega arith)) ∙ ap (λ n. take n added) on))
      (run_counted cs (ops ++ take from added) id parent a (i - from) op here) in
      record {
        accepted = record {
          fresh = one.fresh;
          known = one.known;
          removal = λ r names. absurd (names_none cs id parent (i - from) op here r names);
          room =
              λ full.
              ⊎_elim
              (λ (many : (is_insert op ≡ true) × (most_characters size ≤ count_by is_insert (ops ++ take i added))). let few = one.few in let much = many.1 in absurd (omega (arith, few, much)))
              (λ (none : HasNoRoom (ops ++ take i added) op). short i op g (λ insert. one.few) none)
              full;
        };
        room = λ many. false≢true (sym (no_mark cs id parent (i - from) op here) ∙ many.0);
      })
      (cases_lt i from)
