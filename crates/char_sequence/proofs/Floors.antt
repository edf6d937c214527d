-- The floor of a chunk's ids, and its text, as elements are put in and hidden.
use Rattle.std.proofs.Common.{◌≡◌, ◌≢◌, ℕ, zero, suc, ◌-◌, ◌*◌, ◌<◌, ◌≤◌, Bool, true, false, cond, get_or, List, [], ◌∷◌, ◌++◌, Some, ◌⊎◌, length, set, take, drop, append_assoc, ◌+◌, sym, ap, refl, subst, ◌∙◌, arith, ⊎_elim, add-one, drop-cons, length-append}
use Rattle.std.specs.Char.{encode_utf8}
use Rattle.std.specs.List.{slice_get, insert}
use Rattle.std.proofs.Math.Bool.{beq}
use Rattle.std.proofs.Math.ListN.{length-set}
use Rattle.std.proofs.lemmas.Bool.{false≢true}
use Rattle.std.proofs.lemmas.List.Sums.{sum_by-set}
use Rattle.std.proofs.lemmas.List.Edits.{length-insert}
use Rattle.std.proofs.lemmas.Option.{same_Some, none-some, slice_get_within, get_or_from_slice_get}
use Rattle.std.proofs.lemmas.Str.{encode_same, length-encode, len_utf8_bounds}
use Rattle.std.proofs.lemmas.List.{take-append-drop, take_at, drop_at, take-set, drop-set}
use Rattle.change_ops.specs.Ids.{Less}
use Rattle.change_ops.specs.declared.id.OpId.{OpId}
use Rattle.char_sequence.specs.declared.sequence.Element.{Element}
use Rattle.char_sequence.specs.Chunks.{IsChunk, IsTextOf, IsFloor}
use Rattle.char_sequence.specs.Visible.{visible_text, visible_count}
use Rattle.char_sequence.proofs.Ids.{less_irrefl, lower_floor}
use Rattle.char_sequence.proofs.Lists.{inserted_cases, set_cases}
use Rattle.char_sequence.proofs.VisibleText.{visible_append, visible_one, hidden_one, visible_most, one_most, bytes_next}

pub floor_one : (e : Element) → IsFloor (e ∷ []) e.id
floor_one e zero x g less = less_irrefl e.id (subst (λ z. Less z.id e.id) (sym (same_Some e x g)) less)
floor_one e (suc k) x g less = none-some x g

pub floor_inserted : (items : List Element) (k : ℕ) (e : Element) (floor low : OpId) → k ≤ length items → IsFloor items floor → (Less floor low → ⊥) → (Less e.id low → ⊥) → IsFloor (insert items k e) low
floor_inserted items k e floor low h above not_low new i x g less =
    ⊎_elim
    (λ (v : (i < k) × (slice_get items i ≡ Some x)). lower_floor x.id floor low (above i x v.1) not_low less)
    (λ (v : ((i ≡ k) × (e ≡ x)) ⊎ ((q : ℕ) × (i ≡ suc q) × (k ≤ q) × (slice_get items q ≡ Some x))).
    ⊎_elim
    (λ (w : (i ≡ k) × (e ≡ x)). new (subst (λ z. Less z.id low) (sym w.1) less))
    (λ (w : (q : ℕ) × (i ≡ suc q) × (k ≤ q) × (slice_get items q ≡ Some x)). lower_floor x.id floor low (above w.0 x w.3) not_low less)
    v)
    (inserted_cases items k e i x h g)

-- an element changed, of the same id
pub floor_changed : (items : List Element) (k : ℕ) (o e : Element) (floor : OpId) → slice_get items k ≡ Some o → e.id ≡ o.id → IsFloor items floor → IsFloor (set items k e) floor
floor_changed items k o e floor old is above i x g less =
    ⊎_elim
    (λ (v : (i ≡ k) × (e ≡ x)). above k o old (subst (λ z. Less z floor) (sym (sym is ∙ ap (λ w. w.id) v.1)) less))
    (λ (v : (i ≢ k) × (slice_get items i ≡ Some x)). above i x v.1 less)
    (set_cases items k e i x (slice_get_within items k o old) g)

-- an element put among others
insert_is : (items : List Element) (k : ℕ) (e : Element) → k ≤ length items → insert items k e ≡ take k items ++ e ∷ drop k items
insert_is items zero e h = refl
insert_is [] (suc k) e h = absurd (omega arith)
insert_is (x ∷ items) (suc k) e h = ap (λ z. x ∷ z) (insert_is items k e (omega arith))

pub put_text : (items new : List Element) (k at : ℕ) (e : Element) (bs bs' : List ℕ) → k ≤ length items → new ≡ insert items k e → bs ≡ visible_text items → at ≡ length (visible_text (take k items)) → bs' ≡ (take at bs ++ visible_text (e ∷ [])) ++ drop at bs → bs' ≡ visible_text new
put_text items new k at e bs bs' h is shown size put =
    let front = visible_text (take k items) in
    let back = visible_text (drop k items) in
    let both : bs ≡ front ++ back = shown ∙ ap visible_text (sym (take-append-drop k items)) ∙ visible_append (take k items) (drop k items) in
    let before : take at bs ≡ front = ap (take at) both ∙ take_at front back at (sym size) in
    let behind : drop at bs ≡ back = ap (drop at) both ∙ drop_at front back at (sym size) in
    put
    ∙ ap (λ z. (z ++ visible_text (e ∷ [])) ++ drop at bs) before
    ∙ ap (λ z. (front ++ visible_text (e ∷ [])) ++ z) behind
    ∙ append_assoc front (visible_text (e ∷ [])) back
    ∙ ap (λ z. front ++ z) (sym (visible_append (e ∷ []) (drop k items)))
    ∙ sym (visible_append (take k items) (e ∷ drop k items))
    ∙ ap visible_text (sym (insert_is items k e h))
    ∙ ap visible_text (sym is)

-- ---- an element that is hidden or shown
-- the text before an element, its own, and the text behind it
text_here : (es : List Element) (k : ℕ) (x : Element) → slice_get es k ≡ Some x → visible_text es ≡ visible_text (take k es) ++ (visible_text (x ∷ []) ++ visible_text (drop (k + 1) es))
text_here es k x g =
    let low = slice_get_within es k x g in
    let here : drop k es ≡ x ∷ drop (k + 1) es = rw (add-one, drop-cons es k x low, get_or_from_slice_get es k x x g) refl in
    ap visible_text (sym (take-append-drop k es) ∙ ap (λ z. take k es ++ z) here)
    ∙ visible_append (take k es) (x ∷ drop (k + 1) es)
    ∙ ap (λ z. visible_text (take k es) ++ z) (visible_append (x ∷ []) (drop (k + 1) es))

text_set : (es : List Element) (k : ℕ) (e : Element) → k < length es → visible_text (set es k e) ≡ visible_text (take k es) ++ (visible_text (e ∷ []) ++ visible_text (drop (k + 1) es))
text_set es k e h =
    ap visible_text (sym (take-append-drop k (set es k e)) ∙ ap (λ z. z ++ drop k (set es k e)) (take-set es k e) ∙ ap (λ z. take k es ++ z) (drop-set es k e h))
    ∙ visible_append (take k es) (e ∷ drop (k + 1) es)
    ∙ ap (λ z. visible_text (take k es) ++ z) (visible_append (e ∷ []) (drop (k + 1) es))

-- its bytes put where it was hidden
pub shown_text : (items : List Element) (k at : ℕ) (x e : Element) (bs bs' : List ℕ) → slice_get items k ≡ Some x → x.visible ≡ false → bs ≡ visible_text items → at ≡ length (visible_text (take k items)) → bs' ≡ (take at bs ++ visible_text (e ∷ [])) ++ drop at bs → bs' ≡ visible_text (set items k e)
shown_text items k at x e bs bs' g hidden shown size put =
    let front = visible_text (take k items) in
    let back = visible_text (drop (k + 1) items) in
    let both : bs ≡ front ++ back = shown ∙ text_here items k x g ∙ ap (λ z. front ++ (z ++ back)) (hidden_one x hidden) in
    let before : take at bs ≡ front = ap (take at) both ∙ take_at front back at (sym size) in
    let behind : drop at bs ≡ back = ap (drop at) both ∙ drop_at front back at (sym size) in
    put
    ∙ ap (λ z. (z ++ visible_text (e ∷ [])) ++ drop at bs) before
    ∙ ap (λ z. (front ++ visible_text (e ∷ [])) ++ z) behind
    ∙ append_assoc front (visible_text (e ∷ [])) back
    ∙ sym (text_set items k e (slice_get_within items k x g))

-- its bytes taken out
pub hidden_text : (items : List Element) (k at : ℕ) (x e : Element) (c : ℕ) (bs bs' rest : List ℕ) → slice_get items k ≡ Some x → x.visible ≡ true → e.visible ≡ false → bs ≡ visible_text items → at ≡ length (visible_text (take k items)) → drop at bs ≡ encode_utf8 c ++ rest → bs' ≡ take at bs ++ rest → bs' ≡ visible_text (set items k e)
hidden_text items k at x e c bs bs' rest g visible hidden shown size cut left =
    let front = visible_text (take k items) in
    let own = encode_utf8 x.character in
    let back = visible_text (drop (k + 1) items) in
    let whole : bs ≡ front ++ (own ++ back) = shown ∙ text_here items k x g ∙ ap (λ z. front ++ (z ++ back)) (visible_one x visible) in
    let before : take at bs ≡ front = ap (take at) whole ∙ take_at front (own ++ back) at (sym size) in
    let behind : drop at bs ≡ own ++ back = ap (drop at) whole ∙ drop_at front (own ++ back) at (sym size) in
    let same : rest ≡ back = (encode_same c x.character rest back (sym cut ∙ behind)).1 in
    left
    ∙ ap (λ z. z ++ rest) before
    ∙ ap (λ z. front ++ z) same
    ∙ ap (λ z. front ++ (z ++ back)) (sym (hidden_one e hidden))
    ∙ sym (text_set items k e (slice_get_within items k x g))

-- a visible one begins within the text
pub begins_within : (items : List Element) (k at : ℕ) (x : Element) (bs : List ℕ) → slice_get items k ≡ Some x → x.visible ≡ true → bs ≡ visible_text items → at ≡ length (visible_text (take k items)) → at < length bs
begins_within items k at x bs g visible shown size =
    let front = visible_text (take k items) in
    let own = encode_utf8 x.character in
    let back = visible_text (drop (k + 1) items) in
    let whole : bs ≡ front ++ (own ++ back) = shown ∙ text_here items k x g ∙ ap (λ z. front ++ (z ++ back)) (visible_one x visible) in
    let long = ap length whole ∙ length-append front (own ++ back) in
    let both = length-append own back in
    let one = length-encode x.character in
    let some = (len_utf8_bounds x.character).0 in
    omega (arith, size, long, both, one, some)

-- a hidden one leaves room for a character
pub room_beside : (es : List Element) (k : ℕ) (x : Element) → slice_get es k ≡ Some x → x.visible ≡ false → length (visible_text es) + 4 ≤ 4 * length es
room_beside [] k x g hidden = absurd (none-some x g)
room_beside (e ∷ es) zero x g hidden =
    let none = ap length (hidden_one e (ap (λ (z : Element). z.visible) (same_Some e x g) ∙ hidden)) in
    let rest = visible_most es in
    let whole = bytes_next e es in
    omega (arith, none, rest, whole)
room_beside (e ∷ es) (suc k) x g hidden =
    let rest = room_beside es k x g hidden in
    let one = one_most e in
    let whole = bytes_next e es in
    omega (arith, rest, one, whole)

pub was_hidden : (a b : Bool) → beq a b ≡ false → b ≡ true → a ≡ false
was_hidden false b e t = refl
was_hidden true b e t = absurd (false≢true (sym (subst (λ z. beq true z ≡ false) t e)))

pub was_shown : (a b : Bool) → beq a b ≡ false → b ≡ false → a ≡ true
was_shown true b e f = refl
was_shown false b e f = absurd (false≢true (sym (subst (λ z. beq false z ≡ false) f e)))

pub same_flag : (a b : Bool) → beq a b ≡ true → a ≡ b
same_flag true true e = refl
same_flag true false e = absurd (false≢true e)
same_flag false true e = absurd (false≢true e)
same_flag false false e = refl

abbrev one_of : Bool → ℕ
one_of b = cond b 1 0

one_counts : (es : List Element) (k : ℕ) (x : Element) (b : Bool) → slice_get es k ≡ Some x → x.visible ≡ b → one_of (get_or es k x).visible ≡ one_of b
one_counts es k x b g is = ap (λ (z : Element). one_of z.visible) (get_or_from_slice_get es k x x g) ∙ ap one_of is

pub one_more : (es : List Element) (k : ℕ) (x e : Element) → slice_get es k ≡ Some x → x.visible ≡ false → e.visible ≡ true → visible_count es + 1 ≡ visible_count (set es k e)
one_more es k x e g hidden visible =
    let moved = sum_by-set (λ (z : Element). one_of z.visible) es k e x (slice_get_within es k x g) in
    let old = one_counts es k x false g hidden in
    let new = ap one_of visible in
    omega (arith, moved, old, new)

pub one_less : (es : List Element) (k : ℕ) (x e : Element) → slice_get es k ≡ Some x → x.visible ≡ true → e.visible ≡ false → visible_count es - 1 ≡ visible_count (set es k e)
one_less es k x e g visible hidden =
    let moved = sum_by-set (λ (z : Element). one_of z.visible) es k e x (slice_get_within es k x g) in
    let old = one_counts es k x true g visible in
    let new = ap one_of hidden in
    omega (arith, moved, old, new)

pub chunk_changed : (items : List Element) (k capacity : ℕ) (e : Element) → IsChunk items capacity → IsChunk (set items k e) capacity
chunk_changed items k capacity e kept =
    let size = length-set items k e in
    let some = kept.some in
    let few = kept.few in
    record { some = omega (arith, size, some); few = omega (arith, size, few); room = kept.room }

-- ---- what a chunk keeps
pub chunk_one : (new : List Element) (capacity room : ℕ) (text : List ℕ) (e : Element) → new ≡ e ∷ [] → 64 ≤ capacity → 256 ≤ room → text ≡ visible_text new → IsChunk new capacity × IsTextOf new text room × IsFloor new e.id
chunk_one new capacity room text e is enough wide shown =
    let size : length new ≡ 1 = ap length is in
    (record { some = omega (arith, size); few = omega (arith, size); room = enough }, record { shown = shown; room = wide }, subst (λ z. IsFloor z e.id) (sym is) (floor_one e))

pub chunk_inserted : (items new : List Element) (capacity room k : ℕ) (text : List ℕ) (e : Element) (floor low : OpId) → IsFloor items floor → k ≤ length items → length items < 64 → new ≡ insert items k e → 64 ≤ capacity → 256 ≤ room → text ≡ visible_text new → (Less floor low → ⊥) → (Less e.id low → ⊥) → IsChunk new capacity × IsTextOf new text room × IsFloor new low
chunk_inserted items new capacity room k text e floor low above h few is enough wide shown not_low not_new =
    let size : length new ≡ length items + 1 = ap length is ∙ length-insert items k e h in (
      record { some = omega (arith, size); few = omega (arith, size); room = enough },
      record { shown = shown; room = wide },
      subst (λ z. IsFloor z low) (sym is) (floor_inserted items k e floor low h above not_low not_new),
    )
