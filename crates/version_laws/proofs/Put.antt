-- Where a text gets the characters that are inserted: in one piece, whose first stands where its id says.
use Rattle.std.proofs.Common.{◌≡◌, ℕ, zero, suc, ◌+◌, ◌-◌, ◌<◌, ◌≤◌, ◌⊎◌, Bool, true, false, List, [], ◌∷◌, ◌++◌, Option, Some, None, length, take, drop, set, refl, sym, ap, subst, ◌∙◌, arith, ⊎_elim}
use Rattle.std.specs.List.{slice_get, Contains}
use Rattle.std.proofs.lemmas.Option.{same_Some, none-some, slice_get_within, get_or_from_slice_get}
use Rattle.std.proofs.lemmas.Bool.{cases_Bool, cases_lt}
use Rattle.std.proofs.lemmas.List.{append-nil, take-append-drop, length-take-le, set-get_or}
use Rattle.std.proofs.lemmas.List.Elements.{Contains-append_left, Contains-push, Contains-push_cases}
use Rattle.change_ops.specs.declared.size.Size.{Size}
use Rattle.change_ops.specs.Ids.{Less}
use Rattle.change_ops.specs.Operations.{id_of, Names, NamesRemoval}
use Rattle.change_ops.specs.Runs.{inserts_from}
use Rattle.change_ops.specs.declared.id.OpId.{OpId}
use Rattle.change_ops.specs.declared.operation.Op.{Op}
use Rattle.change_ops.specs.declared.operation.Op.TheVariants.{Insert, Remove, Revive}
use Rattle.char_sequence.specs.declared.sequence.Element.{Element}
use Rattle.char_sequence.specs.Acceptance.{Accepts, AcceptsAll}
use Rattle.char_sequence.specs.Order.{IsAt, IsText, Shows}
use Rattle.char_sequence.specs.Places.{IsStart, IsPast}
use Rattle.char_sequence.specs.RunElements.{elements_from, AcceptsRun}
use Rattle.char_sequence.specs.Tree.{Present, IsTakenBack, IsRemoval, IsHidden, HidesAlone}
use Rattle.char_sequence.proofs.Holding.{HidesToo, back_cases, back_push, not_back, present_at, present_push, same_or_not, text_kept, text_remove, text_shown}
use Rattle.char_sequence.proofs.Ids.{less_cases, less_irrefl, less_trans}
use Rattle.char_sequence.proofs.Inserting.{start_root, start_after}
use Rattle.char_sequence.proofs.OneOrder.{one_text}
use Rattle.char_sequence.proofs.RunHeld.{length-elements}
use Rattle.char_sequence.proofs.RunKept.{run_shown, run_accepted_only}
use Rattle.char_sequence.proofs.Steps.{stands}
use Rattle.mark_anchors.proofs.Places.{same_place}
use Rattle.version_laws.proofs.Lists.{get_behind}

-- ---- where an insert goes
-- some place is the first one, from a place on, whose id is not greater, or the end
past_from : (n : ℕ) (es : List Element) (id : OpId) (start : ℕ) → start + n ≡ length es → (k : ℕ) × (k ≤ length es) × IsPast es id start k
past_from zero es id start size = (
  start,
  omega arith,
  record {
    low = omega arith;
    skipped = λ i x low high g. absurd (omega arith);
    stops = λ x g less. absurd (let within : start < length es = slice_get_within es start x g in omega arith);
  },
)
past_from (suc n) es id start size = elim (slice_get es start) as (λ r. slice_get es start ≡ r → (k : ℕ) × (k ≤ length es) × IsPast es id start k) [
  | None ↦ λ e. (start, omega arith, record { low = omega arith; skipped = λ i x low high g. absurd (omega arith); stops = λ x g less. absurd (none-some x (sym e ∙ g)) })
  | Some x ↦ λ e.
      ⊎_elim
      (λ (less : Less id x.id).
      let r = past_from n es id (start + 1) (omega arith) in
      let low : start + 1 ≤ r.0 = r.2.low in (
        r.0,
        r.1,
        record {
          low = omega arith;
          skipped =
              λ i y from to g.
              ⊎_elim
              (λ (more : start < i). r.2.skipped i y (omega arith) to g)
              (λ (here : i ≤ start).
              let same : start ≡ i = omega arith in
              subst (λ z. Less id z.id) (same_Some x y (sym e ∙ ap (slice_get es) same ∙ g)) less)
              (cases_lt start i);
          stops = r.2.stops;
        },
      ))
      (λ (not : (id ≡ x.id) ⊎ Less x.id id). (
        start,
        omega arith,
        record {
          low = omega arith;
          skipped = λ i y low high g. absurd (omega arith);
          stops = λ y g less.
              let greater : Less id x.id = subst (λ z. Less id z.id) (sym (same_Some x y (sym e ∙ g))) less in
              ⊎_elim
              (λ (same : id ≡ x.id). less_irrefl x.id (subst (λ z. Less z x.id) same greater))
              (λ (lesser : Less x.id id). less_irrefl id (less_trans id x.id id greater lesser))
              not;
        },
      ))
      (less_cases id x.id)
] refl

start_of : (ops : List Op) (es : List Element) (parent : Option OpId) → Shows es ops → ((x : OpId) → parent ≡ Some x → Present ops x) → (start : ℕ) × (start ≤ length es) × IsStart ops es parent start
start_of ops es None h known = (0, omega arith, start_root ops h.tree es (present_at ops es h.text))
start_of ops es (Some m) h known =
    let at = stands ops es h.text m (known m refl) in
    let within : at.0 < length es = slice_get_within es at.0 at.1.0 at.1.1 in
    (at.0 + 1, omega arith, start_after ops es h.text.ordered at.0 at.1.0 m at.1.1 at.1.2)

-- ---- inserts
-- the second elements are the first ones with `count` others put at a place
pub record ArePut (es later : List Element) (place count : ℕ) : Type 0 where
  pub front : List Element
  pub run : List Element
  pub back : List Element
  pub were : front ++ back ≡ es
  pub are : front ++ (run ++ back) ≡ later
  pub ahead : length front ≡ place
  pub size : length run ≡ count

-- The characters of a run are put at the place where the first of them is.
pub run_put : {size : Size} (cs : List ℕ) (ops : List Op) (es later : List Element) (id : OpId) (parent : Option OpId) (place : ℕ) → 0 < length cs → Shows es ops → AcceptsRun size ops id parent cs → Shows later (ops ++ inserts_from id parent cs) → IsAt later id place → ArePut es later place (length cs)
run_put [] ops es later id parent place some h a shown at = absurd (omega arith)
run_put (c ∷ cs) ops es later id parent place some h a shown at =
    let start = start_of ops es parent h a.known in
    let begin : start.0 ≤ length es = start.1 in
    let past = past_from (length es - start.0) es id start.0 (omega arith) in
    let front : List Element = take past.0 es in
    let back : List Element = drop past.0 es in
    let were : front ++ back ≡ es = take-append-drop past.0 es in
    let size : length front ≡ past.0 = length-take-le past.0 es past.1 in
    let all : List Op = ops ++ inserts_from id parent (c ∷ cs) in
    let run : List Element = elements_from id (c ∷ cs) in
    let put : Shows (front ++ (run ++ back)) all =
    run_shown (c ∷ cs) ops front back id parent start.0 (subst (λ l. Shows l ops) (sym were) h) a
    (subst (λ l. IsStart ops l parent start.0) (sym were) start.2)
    (subst (λ l. IsPast l id start.0 (length front)) (sym were) (subst (λ n. IsPast es id start.0 n) (sym size) past.2)) in
    let are : front ++ (run ++ back) ≡ later = one_text all shown.tree (front ++ (run ++ back)) later put.text shown.text in
    let e : Element = record { id = id; character = c; visible = true } in
    let none : length front + 0 ≡ length front = omega arith in
    let first : IsAt (front ++ (run ++ back)) id (length front) = (e, ap (slice_get (front ++ (run ++ back))) (sym none) ∙ get_behind front (run ++ back) 0, refl) in
    record {
      front = front;
      run = run;
      back = back;
      were = were;
      are = are;
      ahead = same_place all later shown id id (length front) place (subst (λ l. IsAt l id (length front)) are first) at refl;
      size = length-elements (c ∷ cs) id;
    }

-- A character that is inserted is put at its place.
pub insert_put : {size : Size} (ops : List Op) (es later : List Element) (op : Op) (id : OpId) (parent : Option OpId) (c place : ℕ) → op ≡ Insert id parent c → Shows es ops → Accepts size ops op → Shows later (ops ++ op ∷ []) → IsAt later id place → ArePut es later place 1
unfolding inserts_from
insert_put {size = size} ops es later op id parent c place is h a shown at =
    let one : Op = Insert id parent c in
    let accepted : Accepts size ops one = subst (λ o. Accepts size ops o) is a in
    let all : AcceptsAll size ops (inserts_from id parent (c ∷ [])) = λ i o g.
    elim i as (λ n. slice_get (one ∷ []) n ≡ Some o → Accepts size (ops ++ take n (one ∷ [])) o) [
      | zero ↦ λ e. subst (λ z. Accepts size (ops ++ []) z) (same_Some one o e) (subst (λ l. Accepts size l one) (sym (append-nil ops)) accepted)
      | suc n ↦ λ e. absurd (none-some o e)
    ] g in
    run_put (c ∷ []) ops es later id parent place (omega arith) h (run_accepted_only [] c ops id parent all) (subst (λ o. Shows later (ops ++ o ∷ [])) is shown) at

-- ---- removals
-- the second elements are the first ones, but for one of them, which keeps its id
pub record DiffersInOne (es later : List Element) : Type 0 where
  pub place : ℕ
  pub was : Element
  pub is : Element
  pub here : slice_get es place ≡ Some was
  pub same : is.id ≡ was.id
  pub are : set es place is ≡ later

-- A character that is removed stays where it is.
pub removal_hides : {size : Size} (ops : List Op) (es later : List Element) (op : Op) (id target : OpId) → op ≡ Remove id target → Shows es ops → Accepts size ops op → Shows later (ops ++ op ∷ []) → DiffersInOne es later
removal_hides ops es later op id target is h a shown =
    let at = stands ops es h.text target (a.known target (subst (λ o. Names o target) (sym is) refl)) in
    let was : Element = at.1.0 in
    let hidden : Element = record { id = was.id; character = was.character; visible = false } in
    let stays : IsTakenBack ops id → ⊥ = subst (λ o. IsTakenBack ops (id_of o) → ⊥) is (not_back ops op a h.removals) in
    let text = text_remove ops es id target h.tree h.text stays at.0 was hidden at.1.1 at.1.2 refl refl refl in
    record {
      place = at.0;
      was = was;
      is = hidden;
      here = at.1.1;
      same = refl;
      are = one_text (ops ++ op ∷ []) shown.tree (set es at.0 hidden) later (subst (λ o. IsText (ops ++ o ∷ []) (set es at.0 hidden)) (sym is) text) shown.text;
    }

-- ---- revivals
-- what hides a character behind a revival hid it before, and is another removal than that which is taken back
open_before : (ops : List Op) (id removal x : OpId) → IsHidden (ops ++ Revive id removal ∷ []) x → HidesToo ops removal x
open_before ops id removal x h = (
  h.0,
  ⊎_elim
      (λ (old : Contains ops (Remove h.0 x)). old)
      (λ (new : Revive id removal ≡ Remove h.0 x). absurd (no_removal h.0 new))
      (Contains-push_cases ops (Revive id removal) (Remove h.0 x) h.1),
  λ b. h.2 (back_push ops (Revive id removal) h.0 b),
  λ same. h.2 (id, subst (λ z. Contains (ops ++ Revive id removal ∷ []) (Revive id z)) (sym same) (Contains-push ops (Revive id removal))),
)
  where
    no_removal : (r : OpId) → Revive id removal ≡ Remove r x → ⊥
    no_removal r e = cc

-- where a character is shown behind a revival, each other removal of it was taken back
only_open : (ops : List Op) (id removal x : OpId) → (IsHidden (ops ++ Revive id removal ∷ []) x → ⊥) → (r : OpId) → Contains ops (Remove r x) → (IsTakenBack ops r → ⊥) → r ≡ removal
only_open ops id removal x shown r removes stands =
    ⊎_elim
    (λ (same : r ≡ removal). same)
    (λ (other : r ≡ removal → ⊥).
    absurd (shown (
      r,
      Contains-append_left ops (Revive id removal ∷ []) (Remove r x) removes,
      λ b. ⊎_elim stands (λ (u : (v : OpId) × (Revive id removal ≡ Revive v r)). other (sym (taken u.0 u.1))) (back_cases ops (Revive id removal) r b),
    )))
    (same_or_not r removal)
  where
    taken : (v : OpId) → Revive id removal ≡ Revive v r → removal ≡ r
    taken v e = cc

-- an element of which this is visible
abbrev with_visible : Element → Bool → Element
with_visible e visible = record { id = e.id; character = e.character; visible = visible }

same_visible : (es : List Element) (place : ℕ) (was : Element) (now : Bool) → slice_get es place ≡ Some was → was.visible ≡ now → set es place (with_visible was now) ≡ es
same_visible es place was now here same =
    ap (λ v. set es place (with_visible was v)) (sym same) ∙ ap (λ (e : Element). set es place e) (sym (get_or_from_slice_get es place was was here)) ∙ set-get_or es place was

-- A revival takes a removal of the character back that stands at this place.
module _ (ops : List Op) (es : List Element) (id removal x : OpId) (h : Shows es ops) (removes : Contains ops (Remove removal x)) (place : ℕ) (was : Element) (here : slice_get es place ≡ Some was) (is_x : was.id ≡ x) where
  -- where the character was visible, or another removal hides it too, the elements are the same
  text_same : (now : Bool) → was.visible ≡ now → ((IsTakenBack ops removal → ⊥) → HidesToo ops removal x) → IsText (ops ++ Revive id removal ∷ []) (set es place (with_visible was now))
  text_same now same others =
      subst (λ l. IsText (ops ++ Revive id removal ∷ []) l) (sym (same_visible es place was now here same))
      (text_kept ops es id removal h.text
      (λ y removed stands. subst (λ z. HidesToo ops removal z) (one_target y (h.distinct (Remove removal x) (Remove removal y) removes removed refl)) (others stands)))
    where
      one_target : (y : OpId) → Remove removal x ≡ Remove removal y → x ≡ y
      one_target y e = cc

  text_seen : (IsHidden (ops ++ Revive id removal ∷ []) x → ⊥) → IsText (ops ++ Revive id removal ∷ []) (set es place (with_visible was true))
  text_seen shown =
      ⊎_elim
      (λ (yes : was.visible ≡ true).
      text_same true yes (λ stands. absurd (h.text.shown place was here yes (subst (λ z. IsHidden ops z) (sym is_x) (removal, removes, stands)))))
      (λ (no : was.visible ≡ false).
      let hid : IsHidden ops x = subst (λ z. IsHidden ops z) is_x (h.text.hidden place was here no) in
      let only : (r : OpId) → Contains ops (Remove r x) → (IsTakenBack ops r → ⊥) → r ≡ removal = only_open ops id removal x shown in
      let alone : HidesAlone ops removal x = record {
        removes = removes;
        stands = subst (λ z. IsTakenBack ops z → ⊥) (only hid.0 hid.1 hid.2) hid.2;
        only = only;
      } in
      text_shown ops es id removal x h.tree h.distinct h.text alone place was (with_visible was true) here is_x refl refl refl)
      (cases_Bool was.visible)

  text_unseen : IsHidden (ops ++ Revive id removal ∷ []) x → IsText (ops ++ Revive id removal ∷ []) (set es place (with_visible was false))
  text_unseen hidden =
      let other : HidesToo ops removal x = open_before ops id removal x hidden in
      ⊎_elim
      (λ (yes : was.visible ≡ true).
      absurd (h.text.shown place was here yes (subst (λ z. IsHidden ops z) (sym is_x) (other.0, other.1, other.2))))
      (λ (no : was.visible ≡ false). text_same false no (λ stands. other))
      (cases_Bool was.visible)

-- A character of which a removal is taken back stays where it is.
pub revival_shows : {size : Size} (ops : List Op) (es later : List Element) (op : Op) (id removal : OpId) → op ≡ Revive id removal → Shows es ops → Accepts size ops op → Shows later (ops ++ op ∷ []) → DiffersInOne es later
revival_shows ops es later op id removal is h a shown =
    let removed : IsRemoval ops removal = a.removal removal (subst (λ o. NamesRemoval o removal) (sym is) refl) in
    let x : OpId = removed.0 in
    let there : Present ops x = h.named (Remove removal x) x removed.1 refl in
    let at = stands ops es h.text x there in
    let was : Element = at.1.0 in
    let now = stands (ops ++ op ∷ []) later shown.text x (present_push ops op x there) in
    let seen : IsHidden (ops ++ Revive id removal ∷ []) x → IsHidden (ops ++ op ∷ []) now.1.0.id =
    λ hidden. subst (λ o. IsHidden (ops ++ o ∷ []) now.1.0.id) (sym is) (subst (λ z. IsHidden (ops ++ Revive id removal ∷ []) z) (sym now.1.2) hidden) in
    let unseen : IsHidden (ops ++ op ∷ []) now.1.0.id → IsHidden (ops ++ Revive id removal ∷ []) x =
    λ hidden. subst (λ o. IsHidden (ops ++ o ∷ []) x) is (subst (λ z. IsHidden (ops ++ op ∷ []) z) now.1.2 hidden) in
    let differs : (visible : Bool) → IsText (ops ++ Revive id removal ∷ []) (set es at.0 (with_visible was visible)) → DiffersInOne es later =
    λ visible text. record {
      place = at.0;
      was = was;
      is = with_visible was visible;
      here = at.1.1;
      same = refl;
      are = one_text (ops ++ op ∷ []) shown.tree (set es at.0 (with_visible was visible)) later (subst (λ o. IsText (ops ++ o ∷ []) (set es at.0 (with_visible was visible))) (sym is) text) shown.text;
    } in
    ⊎_elim
    (λ (yes : now.1.0.visible ≡ true).
    differs true (text_seen ops es id removal x h removed.1 at.0 was at.1.1 at.1.2 (λ hidden. shown.text.shown now.0 now.1.0 now.1.1 yes (seen hidden))))
    (λ (no : now.1.0.visible ≡ false).
    differs false (text_unseen ops es id removal x h removed.1 at.0 was at.1.1 at.1.2 (unseen (shown.text.hidden now.0 now.1.0 now.1.1 no))))
    (cases_Bool now.1.0.visible)
