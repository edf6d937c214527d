-- What is shown once a character is inserted, and how much longer its text is.
use Rattle.std.proofs.Common.{◌≡◌, ℕ, zero, suc, ◌+◌, ◌-◌, ◌<◌, ◌≤◌, true, List, [], ◌∷◌, ◌++◌, Option, Some, None, inl, inr, ◌⊎◌, length, set, sym, ap, refl, ◌∙◌, subst, arith, ⊎_elim}
use Rattle.std.proofs.Math.ListN.{length-set}
use Rattle.std.specs.List.{slice_get, insert, count_by}
use Rattle.std.specs.Char.{encode_utf8}
use Rattle.std.specs.Prelude.{◌↔◌, ◌*◌, false, IsTrue, nat_lt}
use Rattle.std.proofs.lemmas.Bool.{cases_lt, cases_Bool, ltb-true, lt-ltb, false≢true}
use Rattle.std.proofs.lemmas.Option.{none-some, same_Some, slice_get_within}
use Rattle.std.proofs.lemmas.Str.{length-encode, len_utf8_bounds}
use Rattle.change_ops.specs.Ids.{Less}
use Rattle.change_ops.specs.Operations.{is_insert, bytes_of}
use Rattle.change_ops.specs.declared.id.OpId.{OpId}
use Rattle.change_ops.specs.declared.operation.Op.{Op}
use Rattle.change_ops.specs.declared.operation.Op.TheVariants.{Insert, Remove, AddMark, RemoveMark, Revive}
use Rattle.change_ops.specs.declared.size.Size.{Size}
use Rattle.change_ops.specs.declared.size.Size.TheVariants.{Small, Large}
use Rattle.change_ops.specs.Sizes.{most_characters, most_bytes}
use Rattle.char_sequence.specs.declared.sequence.Element.{Element}
use Rattle.char_sequence.specs.Tree.{Present, IsHidden}
use Rattle.char_sequence.specs.Order.{IsText, Shows}
use Rattle.char_sequence.specs.Acceptance.{HasNoRoom, ShowsCharacter, Accepts}
use Rattle.char_sequence.specs.Held.{Sequence, Holds}
use Rattle.char_sequence.specs.Places.{IsPast, IsAfter}
use Rattle.char_sequence.specs.Visible.{visible_text}
use Rattle.char_sequence.proofs.Ids.{less_cases, less_irrefl, less_trans}
use Rattle.char_sequence.proofs.Holding.{text_insert}
use Rattle.char_sequence.proofs.Hiding.{one_shown}
use Rattle.char_sequence.proofs.OneOrder.{one_text}
use Rattle.char_sequence.proofs.Steps.{begins, stands, pushed_shows}
use Rattle.char_sequence.proofs.VisibleText.{visible_one, visible_most, bytes_insert, bytes_shown}

-- ---- where it goes
after_exists : (ops : List Op) (es : List Element) (p : Option OpId) → IsText ops es → ((x : OpId) → p ≡ Some x → Present ops x) → (start : ℕ) × IsAfter es p start × (start ≤ length es)
after_exists ops es None text known = (0, refl, omega arith)
after_exists ops es (Some m) text known =
    let at = stands ops es text m (known m refl) in
    let low = slice_get_within es at.0 at.1.0 at.1.1 in
    (at.0 + 1, (at.0, at.1, refl), omega (arith, low))

-- an id is less than another, or not
less_or_not : (a b : OpId) → Less a b ⊎ (Less a b → ⊥)
less_or_not a b =
    ⊎_elim
    (λ (less : Less a b). inl less)
    (λ (other : (a ≡ b) ⊎ Less b a).
    inr (λ less.
    ⊎_elim
    (λ (same : a ≡ b). less_irrefl b (subst (λ z. Less z b) same less))
    (λ (more : Less b a). less_irrefl a (less_trans a b a less more))
    other))
    (less_cases a b)

past_from : (n : ℕ) (es : List Element) (id : OpId) (start at : ℕ) → start ≤ at → at + n ≡ length es → ((i : ℕ) (x : Element) → start ≤ i → i < at → slice_get es i ≡ Some x → Less id x.id) → (k : ℕ) × IsPast es id start k × (k ≤ length es)
past_from zero es id start at low end skipped =
    (at, record { low = low; skipped = skipped; stops = λ x g less. let within = slice_get_within es at x g in absurd (omega (arith, within, end)) }, omega (arith, end))
past_from (suc n) es id start at low end skipped =
    elim (slice_get es at) as (λ r. slice_get es at ≡ r → (k : ℕ) × IsPast es id start k × (k ≤ length es)) [
      | None ↦ λ none. (at, record { low = low; skipped = skipped; stops = λ x g less. none-some x (sym none ∙ g) }, omega (arith, end))
      | Some e ↦
          λ here.
          ⊎_elim
          (λ (less : Less id e.id).
          past_from n es id start (at + 1) (omega arith) (omega (arith, end))
          (λ i x from to g.
          ⊎_elim
          (λ (before : i < at). skipped i x from before g)
          (λ (last : at ≤ i).
          let same : i ≡ at = omega arith in
          subst (λ z. Less id z.id) (same_Some e x (sym here ∙ ap (slice_get es) (sym same) ∙ g)) less)
          (cases_lt i at)))
          (λ (not : Less id e.id → ⊥).
          (at, record { low = low; skipped = skipped; stops = λ x g less. not (subst (λ z. Less id z.id) (same_Some x e (sym g ∙ here)) less) }, omega (arith, end)))
          (less_or_not id e.id)
    ] refl

past_exists : (es : List Element) (id : OpId) (start : ℕ) → start ≤ length es → (k : ℕ) × IsPast es id start k × (k ≤ length es)
past_exists es id start h =
    past_from (length es - start) es id start start (omega arith) (omega arith) (λ i x from to g. absurd (omega arith))

-- ---- what is shown then
pub one_inserted : {size : Size} (ops : List Op) (es : List Element) (id : OpId) (p : Option OpId) (c : ℕ) → Shows es ops → Accepts size ops (Insert id p c) → (later : List Element) × Shows later (ops ++ Insert id p c ∷ []) × (length (visible_text later) ≡ length (visible_text es) + length (encode_utf8 c))
one_inserted ops es id p c h a =
    let e : Element = record { id = id; character = c; visible = true } in
    let after = after_exists ops es p h.text (λ x n. a.known x n) in
    let past = past_exists es id after.0 after.2 in
    let text = text_insert ops es id p c h.tree h.named h.text a after.0 past.0 (begins ops es p after.0 h.tree h.text after.1) past.1 past.2 e refl refl refl in
    (insert es past.0 e, pushed_shows ops es (insert es past.0 e) (Insert id p c) h a text, bytes_insert es past.0 e past.2 ∙ ap (λ bs. length (visible_text es) + length bs) (visible_one e refl))

pub inserted_bytes : {size : Size} (ops : List Op) (es later : List Element) (id : OpId) (p : Option OpId) (c : ℕ) → Shows es ops → Accepts size ops (Insert id p c) → Shows later (ops ++ Insert id p c ∷ []) → length (visible_text later) ≡ length (visible_text es) + length (encode_utf8 c)
inserted_bytes ops es later id p c h a shown =
    let one = one_inserted ops es id p c h a in
    ap (λ l. length (visible_text l)) (one_text (ops ++ Insert id p c ∷ []) shown.tree later one.0 shown.text one.1.text) ∙ one.2

-- an accepted insert has room for its bytes
pub bytes_room : {size : Size} (ops : List Op) (es : List Element) (op : Op) → is_insert op ≡ true → Shows es ops → Accepts size ops op → length (visible_text es) + bytes_of op ≤ most_bytes
bytes_room ops es (Insert id p c) i h a =
    ⊎_elim
    (λ (more : most_bytes < length (visible_text es) + length (encode_utf8 c)). absurd (a.room (inr (es, c, h, refl, more))))
    (λ (fits : length (visible_text es) + length (encode_utf8 c) ≤ most_bytes). fits)
    (cases_lt most_bytes (length (visible_text es) + length (encode_utf8 c)))
bytes_room ops es (Remove id target) i h a = absurd (false≢true i)
bytes_room ops es (AddMark id attribute start end) i h a = absurd (false≢true i)
bytes_room ops es (RemoveMark id key start end) i h a = absurd (false≢true i)
bytes_room ops es (Revive id removal) i h a = absurd (false≢true i)

pub put_bytes : {size : Size} (ops : List Op) (es fs later : List Element) (op : Op) (id : OpId) (p : Option OpId) (c k : ℕ) → op ≡ Insert id p c → fs ≡ es → later ≡ insert fs k (record { id = id; character = c; visible = true }) → k ≤ length es → Shows es ops → Accepts size ops op → length (visible_text later) ≤ most_bytes
put_bytes ops es fs later op id p c k is same new within h a =
    let e : Element = record { id = id; character = c; visible = true } in
    let room : length (visible_text es) + length (encode_utf8 c) ≤ most_bytes = subst (λ o. length (visible_text es) + bytes_of o ≤ most_bytes) is (bytes_room ops es op (ap is_insert is) h a) in
    let size = ap (λ l. length (visible_text l)) (new ∙ ap (λ z. insert z k e) same) ∙ bytes_insert es k e within ∙ ap (λ bs. length (visible_text es) + length bs) (visible_one e refl) in
    subst (λ n. n ≤ most_bytes) (sym size) room

-- whether the elements that show the operations have room for the character that is shown: no others show them
pub no_room_iff : (ops : List Op) (es : List Element) (op : Op) (c bytes added : ℕ) → bytes ≡ length (visible_text es) → added ≡ length (encode_utf8 c) → Shows es ops → ShowsCharacter ops op c → IsTrue (nat_lt most_bytes (bytes + added)) ↔ HasNoRoom ops op
no_room_iff ops es op c bytes added size more h shows = (
  λ t.
      let over : most_bytes < bytes + added = ltb-true most_bytes (bytes + added) t in
      (es, c, h, shows, omega (arith, over, size, more)),
  λ none.
      let same = ap (λ l. length (visible_text l)) (one_text ops h.tree none.0 es none.2.text h.text) in
      let one : c ≡ none.1 = one_shown ops h.distinct op c none.1 shows none.3 in
      let long = ap (λ z. length (encode_utf8 z)) one in
      let over = none.4 in
      lt-ltb most_bytes (bytes + added) (omega (arith, same, over, size, more, long)),
)

-- an operation that shows nothing has room
pub nothing_shown : (ops : List Op) (op : Op) → ((c : ℕ) → ShowsCharacter ops op c → ⊥) → IsTrue false ↔ HasNoRoom ops op
nothing_shown ops op nothing = (λ t. absurd (false≢true t), λ none. absurd (nothing none.1 none.3))

-- ---- the two sizes
pub accepts_large : (ops : List Op) (op : Op) → Accepts Small ops op → Accepts Large ops op
accepts_large ops op a = record {
  fresh = a.fresh;
  known = a.known;
  removal = a.removal;
  room =
      λ full.
      ⊎_elim
      (λ (many : (is_insert op ≡ true) × (most_characters Large ≤ count_by is_insert ops)). let most = many.1 in a.room (inl (many.0, omega (arith, most))))
      (λ (none : HasNoRoom ops op). a.room (inr none))
      full;
}

pub op_bytes : (op : Op) → bytes_of op ≤ 4
op_bytes (Insert id p c) = let size = length-encode c in let most = (len_utf8_bounds c).1 in omega (arith, size, most)
op_bytes (Remove id target) = omega arith
op_bytes (AddMark id attribute start end) = omega arith
op_bytes (RemoveMark id key start end) = omega arith
op_bytes (Revive id removal) = omega arith

pub few_have_room : (c : Sequence) (ops : List Op) (op : Op) → Holds c ops → count_by is_insert ops < most_characters Small → HasNoRoom ops op → ⊥
few_have_room c ops op h few (es, d, shown, shows, more) =
    let same = ap length (one_text ops h.shows.tree es c.elements shown.text h.shows.text) in
    let size = h.size in
    let most = visible_most es in
    let one = length-encode d in
    let added = (len_utf8_bounds d).1 in
    absurd (omega (arith, same, size, most, one, added, few, more))

-- a hidden character and those that are visible have four bytes each at most
hidden_fits : (es : List Element) (k : ℕ) (x : Element) → slice_get es k ≡ Some x → x.visible ≡ false → length (visible_text es) + length (encode_utf8 x.character) ≤ 4 * length es
hidden_fits es k x g f =
    let e : Element = record { id = x.id; character = x.character; visible = true } in
    let longer = bytes_shown es k x e g f refl in
    let most = visible_most (set es k e) in
    let size = length-set es k e in
    omega (arith, longer, most, size)

pub revived_have_room : (c : Sequence) (ops : List Op) (op : Op) → Holds c ops → count_by is_insert ops ≤ most_characters Small → is_insert op ≡ false → HasNoRoom ops op → ⊥
revived_have_room c ops (Insert id p d) h few other none = absurd (false≢true (sym other))
revived_have_room c ops (Remove id target) h few other (es, d, shown, shows, more) = shows
revived_have_room c ops (AddMark id attribute start end) h few other (es, d, shown, shows, more) = shows
revived_have_room c ops (RemoveMark id key start end) h few other (es, d, shown, shows, more) = shows
revived_have_room c ops (Revive id removal) h few other (es, d, shown, (x, p, i, alone), more) =
    let at = shown.text.listed x p d i in
    let e : Element = at.1.0 in
    let hidden : e.visible ≡ false =
    ⊎_elim
    (λ (t : e.visible ≡ true). absurd (shown.text.shown at.0 e at.1.1 t (subst (λ z. IsHidden ops z) (sym at.1.2) (removal, alone.removes, alone.stands))))
    (λ (f : e.visible ≡ false). f)
    (cases_Bool e.visible)
    in
    let fits = hidden_fits es at.0 e at.1.1 hidden in
    let one = ap (λ z. length (encode_utf8 z)) at.1.3 in
    let same = ap length (one_text ops h.shows.tree es c.elements shown.text h.shows.text) in
    let size = h.size in
    absurd (omega (arith, fits, one, same, size, few, more))
