-- The facts of the code's steps, as lemmas over plain variables.
use Rattle.std.proofs.Common.{◌≡◌, ℕ, ◌+◌, ◌<◌, ◌≤◌, Bool, not, true, false, cond, List, [], ◌∷◌, ◌++◌, Option, Some, None, inl, inr, ◌⊎◌, length, set, sym, ap, refl, ◌∙◌, subst, arith, ⊎_elim, add-zero}
use Rattle.std.proofs.Math.ListN.{length-set}
use Rattle.std.proofs.lemmas.List.Edits.{length-insert}
use Rattle.std.specs.List.{slice_get, insert, Contains, count_by}
use Rattle.std.proofs.lemmas.Bool.{cases_lt, cases_Bool}
use Rattle.std.specs.Char.{encode_utf8}
use Rattle.std.specs.Prelude.{◌↔◌, IsTrue}
use Rattle.std.specs.Option.{MatchOption}
use Rattle.std.specs.Ordering.{nat_cmp}
use Rattle.std.specs.FinMap.{FinMap}
use Rattle.change_ops.specs.Operations.{id_of, is_insert, Names}
use Rattle.change_ops.specs.declared.id.OpId.{OpId}
use Rattle.change_ops.specs.declared.operation.Op.{Op}
use Rattle.change_ops.specs.declared.operation.Op.TheVariants.{Insert, Remove, Revive}
use Rattle.change_ops.specs.declared.size.Size.{Size}
use Rattle.change_ops.specs.Sizes.{most_characters, most_bytes}
use Rattle.char_sequence.specs.declared.sequence.Element.{Element}
use Rattle.char_sequence.specs.Tree.{Present, IsTakenBack, IsHidden, HidesAlone, IsTree}
use Rattle.char_sequence.specs.Order.{IsAt, IsText, Shows}
use Rattle.char_sequence.specs.Acceptance.{Used, NamesId, IsUnknown, HasNoRoom, ShowsCharacter, Accepts}
use Rattle.char_sequence.specs.Visible.{visible_text}
use Rattle.char_sequence.specs.Newest.{IsNewest}
use Rattle.char_sequence.specs.Held.{Sequence, Holds, HoldsRemovals}
use Rattle.removal_runs.specs.Open.{Removals, Removes}
use Rattle.char_sequence.specs.Places.{IsStart, IsPast, IsAfter}
use Rattle.char_sequence.specs.Index.{HasId}
use Rattle.char_sequence.specs.Named.{IsAboveAll}
use Rattle.char_sequence.proofs.Counters.{used_other}
use Rattle.char_sequence.proofs.Inserting.{start_root, start_after}
use Rattle.char_sequence.proofs.OneOrder.{one_text}
use Rattle.char_sequence.proofs.VisibleText.{bytes_hidden, bytes_shown}
use Rattle.char_sequence.proofs.Holding.{present_at, listed_ids, text_insert, text_remove, text_shown, tree_push, distinct_push, named_push, removals_push, not_back, count_push, insert_not_remove, insert_not_revive}
use Rattle.char_sequence.proofs.Hiding.{SameRemovals, same_removals_held, shows_same, inserts_by_text, held_other, held_removed, held_revived}

-- ---- places
pub stands : (ops : List Op) (es : List Element) → IsText ops es → (x : OpId) → Present ops x → HasId es x
stands ops es text x h = listed_ids ops es text x h.0 h.1

pub placed : (ops : List Op) (es : List Element) (id : OpId) (r : Option ℕ) → IsText ops es → MatchOption r (HasId es id → ⊥) (λ k. IsAt es id k) → MatchOption r (Present ops id → ⊥) (λ k. IsAt es id k)
placed ops es id None text none = λ h. none (stands ops es text id h)
placed ops es id (Some k) text found = found

pub visible_of : (ops : List Op) (es : List Element) (id : OpId) (e : Element) → IsText ops es → (k : ℕ) × (slice_get es k ≡ Some e) × (e.id ≡ id) → IsTrue e.visible ↔ Present ops id × (IsHidden ops id → ⊥)
visible_of ops es id e text (k, here, is) = (
  λ t. (subst (λ z. Present ops z) is (present_at ops es text k e here), λ r. text.shown k e here t (subst (λ z. IsHidden ops z) (sym is) r)),
  λ p.
      elim e.visible as (λ b. e.visible ≡ b → b ≡ true) [
        | true ↦ λ t. refl
        | false ↦ λ f. absurd (p.1 (subst (λ z. IsHidden ops z) is (text.hidden k e here f)))
      ] refl,
)

pub present_iff : (ops : List Op) (es : List Element) (id : OpId) (b : Bool) → IsText ops es → (b ≡ true → HasId es id) → (b ≡ false → HasId es id → ⊥) → IsTrue b ↔ Present ops id
present_iff ops es id b text there missing = (
  λ t. let at = there t in subst (λ z. Present ops z) at.1.2 (present_at ops es text at.0 at.1.0 at.1.1),
  λ p.
      elim b as (λ v. b ≡ v → b ≡ true) [
        | true ↦ λ t. t
        | false ↦ λ f. absurd (missing f (stands ops es text id p))
      ] refl,
)

-- the places after the parent
pub begins : (ops : List Op) (es : List Element) (p : Option OpId) (start : ℕ) → IsTree ops → IsText ops es → IsAfter es p start → IsStart ops es p start
begins ops es None start t text e = subst (λ n. IsStart ops es None n) (sym e) (start_root ops t es (present_at ops es text))
begins ops es (Some m) start t text (k, (x, g, is), e) = subst (λ n. IsStart ops es (Some m) n) (sym e) (start_after ops es text.ordered k x m g is)

-- the elements with the new one put in
pub placed_text : {size : Size} (es ds es' : List Element) (id : OpId) (p : Option OpId) (c start k : ℕ) → IsAfter es p start → IsPast es id start k → k ≤ length es → ds ≡ es → es' ≡ insert ds k (record { id = id; character = c; visible = true }) → (ops : List Op) → IsTree ops → ((o : Op) (x : OpId) → Contains ops o → Names o x → Present ops x) → IsText ops es → Accepts size ops (Insert id p c) → IsText (ops ++ Insert id p c ∷ []) es'
placed_text es ds es' id p c start k after past within same new ops t named text a =
    let e : Element = record { id = id; character = c; visible = true } in
    subst (λ z. IsText (ops ++ Insert id p c ∷ []) z) (sym (new ∙ ap (λ z. insert z k e) same))
    (text_insert ops es id p c t named text a start k (begins ops es p start t text after) past within e refl refl refl)

pub put_size : (es fs es' : List Element) (k : ℕ) (e : Element) → fs ≡ es → es' ≡ insert fs k e → k ≤ length es → length es' ≡ length es + 1
put_size es fs es' k e same new within = ap length (new ∙ ap (λ z. insert z k e) same) ∙ length-insert es k e within

-- the element of an id is marked, as visible or as hidden
abbrev pub IsMarked : List Element → List Element → OpId → Bool → Type 0
IsMarked es fs id v =
    (k : ℕ) × IsAt es id k × ((x : Element) → slice_get es k ≡ Some x → fs ≡ set es k (record { id = x.id; character = x.character; visible = v }))

pub hidden_text : (es fs : List Element) (target : OpId) → IsMarked es fs target false → (ops : List Op) (id : OpId) → IsTree ops → IsText ops es → (IsTakenBack ops id → ⊥) → IsText (ops ++ Remove id target ∷ []) fs
hidden_text es fs target (k, (x, g, is), new) ops id t text stands =
    subst (λ z. IsText (ops ++ Remove id target ∷ []) z) (sym (new x g)) (text_remove ops es id target t text stands k x (record { id = x.id; character = x.character; visible = false }) g is refl refl refl)

pub shown_text : (es fs : List Element) (target : OpId) → IsMarked es fs target true → (ops : List Op) (id removal : OpId) → Shows es ops → HidesAlone ops removal target → IsText (ops ++ Revive id removal ∷ []) fs
shown_text es fs target (k, (x, g, is), new) ops id removal h alone =
    subst (λ z. IsText (ops ++ Revive id removal ∷ []) z) (sym (new x g)) (text_shown ops es id removal target h.tree h.distinct h.text alone k x (record { id = x.id; character = x.character; visible = true }) g is refl refl refl)

pub marked_size : (es fs : List Element) (target : OpId) (v : Bool) → IsMarked es fs target v → length fs ≡ length es
marked_size es fs target v (k, (x, g, is), new) = ap length (new x g) ∙ length-set es k (record { id = x.id; character = x.character; visible = v })

pub hidden_bytes : (es fs : List Element) (target : OpId) → IsMarked es fs target false → length (visible_text fs) ≤ length (visible_text es)
hidden_bytes es fs target (k, (x, g, is), new) =
    let e : Element = record { id = x.id; character = x.character; visible = false } in
    let less = bytes_hidden es k x e g refl in
    let same = ap (λ l. length (visible_text l)) (new x g) in
    omega (arith, less, same)

-- a character that an accepted revival shows has room
pub shown_bytes : {size : Size} (es fs : List Element) (ops : List Op) (id removal target : OpId) → IsMarked es fs target true → Shows es ops → HidesAlone ops removal target → Accepts size ops (Revive id removal) → length (visible_text fs) ≤ most_bytes
shown_bytes es fs ops id removal target (k, (x, g, is), new) h alone a =
    let e : Element = record { id = x.id; character = x.character; visible = true } in
    let hidden : x.visible ≡ false =
    ⊎_elim
    (λ (t : x.visible ≡ true). absurd (h.text.shown k x g t (subst (λ z. IsHidden ops z) (sym is) (removal, alone.removes, alone.stands))))
    (λ (f : x.visible ≡ false). f)
    (cases_Bool x.visible)
    in
    let longer = bytes_shown es k x e g hidden refl in
    let same = ap (λ l. length (visible_text l)) (new x g) in
    let from = h.text.inserted k x g in
    let shows : ShowsCharacter ops (Revive id removal) x.character = (target, from.0, subst (λ z. Contains ops (Insert z from.0 x.character)) is from.1, alone) in
    ⊎_elim
    (λ (more : most_bytes < length (visible_text es) + length (encode_utf8 x.character)). absurd (a.room (inr (es, x.character, h, shows, more))))
    (λ (fits : length (visible_text es) + length (encode_utf8 x.character) ≤ most_bytes). omega (arith, fits, longer, same))
    (cases_lt most_bytes (length (visible_text es) + length (encode_utf8 x.character)))

-- ---- whole operations
-- what is shown of the operations with one more, where its text is
pub pushed_shows : {size : Size} (ops : List Op) (es es' : List Element) (op : Op) → Shows es ops → Accepts size ops op → IsText (ops ++ op ∷ []) es' → Shows es' (ops ++ op ∷ [])
pushed_shows ops es es' op h a text = record {
  tree = tree_push ops h.tree op a;
  distinct = distinct_push ops op a h.distinct;
  named = named_push ops op a h.named;
  removals = removals_push ops op a h.removals;
  text = text;
}

pub inserted_shows : {size : Size} (es es' : List Element) (op : Op) (id : OpId) (p : Option OpId) (c : ℕ) → op ≡ Insert id p c → ((ops : List Op) → IsTree ops → ((o : Op) (x : OpId) → Contains ops o → Names o x → Present ops x) → IsText ops es → Accepts size ops (Insert id p c) → IsText (ops ++ Insert id p c ∷ []) es') → (ops : List Op) → Shows es ops → Accepts size ops op → Shows es' (ops ++ op ∷ [])
inserted_shows {size} es es' op id p c is text ops h a =
    pushed_shows ops es es' op h a (subst (λ o. IsText (ops ++ o ∷ []) es') (sym is) (text ops h.tree h.named h.text (subst (λ o. Accepts size ops o) is a)))

pub removed_shows : {size : Size} (es es' : List Element) (op : Op) (id target : OpId) → op ≡ Remove id target → ((ops : List Op) (id : OpId) → IsTree ops → IsText ops es → (IsTakenBack ops id → ⊥) → IsText (ops ++ Remove id target ∷ []) es') → (ops : List Op) → Shows es ops → Accepts size ops op → Shows es' (ops ++ op ∷ [])
removed_shows es es' op id target is text ops h a =
    pushed_shows ops es es' op h a (subst (λ o. IsText (ops ++ o ∷ []) es') (sym is) (text ops id h.tree h.text (subst (λ z. IsTakenBack ops z → ⊥) (ap id_of is) (not_back ops op a h.removals))))

pub revived_shows : {size : Size} (es es' : List Element) (op : Op) (id removal : OpId) → op ≡ Revive id removal → (ops : List Op) → Shows es ops → Accepts size ops op → IsText (ops ++ Revive id removal ∷ []) es' → Shows es' (ops ++ op ∷ [])
revived_shows es es' op id removal is ops h a text = pushed_shows ops es es' op h a (subst (λ o. IsText (ops ++ o ∷ []) es') (sym is) text)

pub not_used : {size : Size} (ops : List Op) (op : Op) (id : OpId) → id_of op ≡ id → Accepts size ops op → Used ops id → ⊥
not_used ops op id is a u = a.fresh (inl (subst (λ z. Used ops z) (sym is) u))

pub inserted_held : {size : Size} (es es' : List Element) (last last' : FinMap nat_cmp ℕ) (removals : Removals) (op : Op) (id : OpId) (p : Option OpId) (c : ℕ) → op ≡ Insert id p c → ((ops : List Op) → IsTree ops → ((o : Op) (x : OpId) → Contains ops o → Names o x → Present ops x) → IsText ops es → Accepts size ops (Insert id p c) → IsText (ops ++ Insert id p c ∷ []) es') → length es' ≡ length es + 1 → ((ops : List Op) (o : Op) → id_of o ≡ id → IsNewest ops last → IsNewest (ops ++ o ∷ []) last') → (ops : List Op) → Holds (record { elements = es; newest = last; removals = removals }) ops → Accepts size ops op → Holds (record { elements = es'; newest = last'; removals = removals }) (ops ++ op ∷ [])
inserted_held es es' last last' removals op id p c is text size note ops h a =
    let counted = count_push is_insert ops op in
    let one : is_insert op ≡ true = ap is_insert is in
    record {
      shows = inserted_shows es es' op id p c is text ops h.shows a;
      newest = note ops op (ap id_of is) h.newest;
      removals = held_other removals ops op (λ r x e. insert_not_remove id p c r x (sym is ∙ e)) (λ v r e. insert_not_revive id p c v r (sym is ∙ e)) h.removals;
      size = size ∙ ap (λ n. n + 1) h.size ∙ sym (counted ∙ ap (λ b. count_by is_insert ops + cond b 1 0) one);
    }

pub removed_held : {size : Size} (es es' : List Element) (last last' : FinMap nat_cmp ℕ) (removals removals' : Removals) (op : Op) (id target : OpId) → op ≡ Remove id target → ((ops : List Op) (id : OpId) → IsTree ops → IsText ops es → (IsTakenBack ops id → ⊥) → IsText (ops ++ Remove id target ∷ []) es') → length es' ≡ length es → ((ops : List Op) (o : Op) → id_of o ≡ id → IsNewest ops last → IsNewest (ops ++ o ∷ []) last') → ((r x : OpId) → Removes removals' r x ↔ (Removes removals r x ⊎ ((r ≡ id) × (x ≡ target)))) → removals'.back ≡ removals.back → (ops : List Op) → Holds (record { elements = es; newest = last; removals = removals }) ops → Accepts size ops op → Holds (record { elements = es'; newest = last'; removals = removals' }) (ops ++ op ∷ [])
removed_held es es' last last' removals removals' op id target is text size note added back ops h a =
    let counted = count_push is_insert ops op in
    let none : is_insert op ≡ false = ap is_insert is in
    record {
      shows = removed_shows es es' op id target is text ops h.shows a;
      newest = note ops op (ap id_of is) h.newest;
      removals = subst (λ o. HoldsRemovals removals' (ops ++ o ∷ [])) (sym is) (held_removed removals removals' ops id target added back h.removals);
      size = size ∙ h.size ∙ sym (counted ∙ ap (λ b. count_by is_insert ops + cond b 1 0) none ∙ add-zero (count_by is_insert ops));
    }

pub revived_held : {size : Size} (es es' : List Element) (last last' : FinMap nat_cmp ℕ) (removals removals' : Removals) (op : Op) (id removal : OpId) → op ≡ Revive id removal → length es' ≡ length es → ((ops : List Op) (o : Op) → id_of o ≡ id → IsNewest ops last → IsNewest (ops ++ o ∷ []) last') → ((r : OpId) → Contains removals'.back r ↔ (Contains removals.back r ⊎ (r ≡ removal))) → removals'.removals ≡ removals.removals → (ops : List Op) → Holds (record { elements = es; newest = last; removals = removals }) ops → Accepts size ops op → IsText (ops ++ Revive id removal ∷ []) es' → Holds (record { elements = es'; newest = last'; removals = removals' }) (ops ++ op ∷ [])
revived_held es es' last last' removals removals' op id removal is size note added same ops h a text =
    let counted = count_push is_insert ops op in
    let none : is_insert op ≡ false = ap is_insert is in
    record {
      shows = revived_shows es es' op id removal is ops h.shows a text;
      newest = note ops op (ap id_of is) h.newest;
      removals = subst (λ o. HoldsRemovals removals' (ops ++ o ∷ [])) (sym is) (held_revived removals removals' ops id removal added same h.removals);
      size = size ∙ h.size ∙ sym (counted ∙ ap (λ b. count_by is_insert ops + cond b 1 0) none ∙ add-zero (count_by is_insert ops));
    }

-- an accepted insert has room
pub has_room : {size : Size} (ops : List Op) (op : Op) (n m : ℕ) → m ≡ n + 1 → n ≡ count_by is_insert ops → is_insert op ≡ true → Accepts size ops op → m ≤ most_characters size
has_room {size} ops op n m one count i a =
    ⊎_elim
    (λ (less : n < most_characters size). omega arith)
    (λ (full : most_characters size ≤ n). absurd (a.room (inl (i, omega arith))))
    (cases_lt n (most_characters size))

-- the elements and the removals say how much room there is, whatever the operations are
pub no_room_other : (es : List Element) (ops others : List Op) (op : Op) → Shows es ops → Shows es others → SameRemovals others ops → HasNoRoom others op → HasNoRoom ops op
no_room_other es ops others op h k s (fs, c, shown, shows, more) =
    let same : fs ≡ es = one_text others k.tree fs es shown.text k.text in
    (es, c, h, shows_same others ops s (inserts_by_text others ops es k.text h.text) op c shows, subst (λ l. most_bytes < length (visible_text l) + length (encode_utf8 c)) same more)

-- what is held decides which operations are accepted, whatever the operations are
pub accepts_other : {size : Size} (c : Sequence) (ops others : List Op) (op : Op) → Holds c ops → Holds c others → Accepts size ops op → Accepts size others op
accepts_other {size} c ops others op h k a = record {
  fresh =
      λ s.
      ⊎_elim
      (λ (u : Used others (id_of op)). used_other ops others c.newest (id_of op) h.newest k.newest (λ v. a.fresh (inl v)) u)
      (λ (n : (x : OpId) × NamesId op x × ((id_of op).counter ≤ x.counter)). a.fresh (inr n))
      s;
  known =
      λ x n.
      let at = stands ops c.elements h.shows.text x (a.known x n) in
      subst (λ z. Present others z) at.1.2 (present_at others c.elements k.shows.text at.0 at.1.0 at.1.1);
  removal =
      λ r n.
      let from = a.removal r n in
      (from.0, (k.removals.removes r from.0).1 ((h.removals.removes r from.0).0 from.1));
  room =
      λ full.
      let here = h.size in
      let there = k.size in
      ⊎_elim
      (λ (many : (is_insert op ≡ true) × (most_characters size ≤ count_by is_insert others)). let most = many.1 in a.room (inl (many.0, omega (arith, here, there, most))))
      (λ (none : HasNoRoom others op). a.room (inr (no_room_other c.elements ops others op h.shows k.shows (same_removals_held c.removals others ops k.removals h.removals) none)))
      full;
}

-- ---- checks
pub lost : (ops : List Op) (op : Op) (es : List Element) (named : Option OpId) → IsText ops es → ((x : OpId) → named ≡ Some x → Names op x) → (x : OpId) × (named ≡ Some x) × (HasId es x → ⊥) → IsUnknown ops op
lost ops op es named text names (x, e, none) = inl (x, names x e, λ h. none (stands ops es text x h))

pub all_known : (ops : List Op) (op : Op) (es : List Element) (first second : Option OpId) → IsText ops es → ((x : OpId) → Names op x → (first ≡ Some x) ⊎ (second ≡ Some x)) → ((x : OpId) → first ≡ Some x → HasId es x) → ((x : OpId) → second ≡ Some x → HasId es x) → (x : OpId) → Names op x → Present ops x
all_known ops op es first second text names there there' x n =
    let at : HasId es x =
    ⊎_elim
    (λ (e : first ≡ Some x). there x e)
    (λ (e : second ≡ Some x). there' x e)
    (names x n)
    in
    subst (λ z. Present ops z) at.1.2 (present_at ops es text at.0 at.1.0 at.1.1)

pub not_true : (b : Bool) → not b ≡ true → b ≡ false
not_true true e = sym e
not_true false e = refl

-- the id of an accepted operation is above those of its node's elements
pub above_all : {size : Size} (ops : List Op) (op : Op) (es ds : List Element) (id : OpId) → id_of op ≡ id → ds ≡ es → IsText ops es → Accepts size ops op → IsAboveAll ds id
above_all ops op es ds id is same text a k e g node =
    let there : slice_get es k ≡ Some e = ap (λ z. slice_get z k) (sym same) ∙ g in
    let from = text.inserted k e there in
    ⊎_elim
    (λ (less : e.id.counter < id.counter). less)
    (λ (more : id.counter ≤ e.id.counter). absurd (not_used ops op id is a (Insert e.id from.0 e.character, from.1, node, more)))
    (cases_lt e.id.counter id.counter)
