-- The bytes of all characters, hidden ones too: they grow by what is inserted alone.
use Rattle.std.proofs.Common.{◌≡◌, ℕ, zero, suc, ◌+◌, ◌*◌, ◌<◌, ◌≤◌, true, false, List, [], ◌∷◌, ◌++◌, Option, Some, length, map, drop, get_or, add-one, drop-cons, sym, ap, refl, ◌∙◌, subst, arith, ⊎_elim, length-append}
use Rattle.std.specs.List.{slice_get, sum_by, Contains}
use Rattle.std.specs.Char.{encode_utf8}
use Rattle.std.specs.Prelude.{encode_utf8_all}
use Rattle.std.proofs.lemmas.Bool.{cases_Bool}
use Rattle.std.proofs.lemmas.Option.{none-some, same_Some, slice_get_within}
use Rattle.std.proofs.lemmas.List.{drop_all}
use Rattle.std.proofs.lemmas.List.Elements.{Contains-append_cases}
use Rattle.std.proofs.lemmas.Str.{length-encode, len_utf8_bounds}
use Rattle.std.proofs.lemmas.List.Sums.{sum_by-cons}
use Rattle.change_ops.specs.Operations.{bytes_of}
use Rattle.change_ops.specs.Sizes.{most_bytes}
use Rattle.change_ops.specs.declared.id.OpId.{OpId}
use Rattle.change_ops.specs.declared.operation.Op.{Op}
use Rattle.change_ops.specs.declared.operation.Op.TheVariants.{Insert, Remove, AddMark, RemoveMark, Revive}
use Rattle.char_sequence.specs.declared.sequence.Element.{Element}
use Rattle.char_sequence.specs.Acceptance.{HasNoRoom}
use Rattle.char_sequence.specs.Order.{Before, Shows}
use Rattle.char_sequence.specs.Tree.{IsHidden}
use Rattle.char_sequence.specs.Visible.{visible_text, all_bytes}
use Rattle.char_sequence.proofs.Deciding.{nothing_there, cons_cases}
use Rattle.char_sequence.proofs.Joined.{get_left, get_right}
use Rattle.char_sequence.proofs.OneOrder.{same_elements}
use Rattle.char_sequence.proofs.TextGrowth.{seen_as, covered, same_insert, remove_no_insert, mark_no_insert, unmark_no_insert, revive_no_insert}
use Rattle.char_sequence.proofs.TreeLaws.{before_irrefl}
use Rattle.char_sequence.proofs.VisibleText.{visible_none, visible_one, hidden_one, bytes_append, bytes_next}

pub all_next : (e : Element) (es : List Element) → all_bytes (e ∷ es) ≡ length (encode_utf8 e.character) + all_bytes es
all_next e es = length-append (encode_utf8 e.character) (encode_utf8_all (map (λ (x : Element). x.character) es))

-- at most four bytes a character
pub all_most : (es : List Element) → all_bytes es ≤ 4 * length es
all_most [] = omega arith
all_most (e ∷ es) =
    let rest = all_most es in
    let all = all_next e es in
    let size = length-encode e.character in
    let most = (len_utf8_bounds e.character).1 in
    omega (arith, rest, all, size, most)

-- one of them less is left
pub all_left : (es : List Element) (i : ℕ) (e : Element) (bytes : ℕ) → i < length es → e ≡ get_or es i e → bytes ≡ length (encode_utf8 e.character) → all_bytes (drop i es) ≡ bytes + all_bytes (drop (i + 1) es)
all_left es i e bytes low is size =
    let left : drop i es ≡ e ∷ drop (i + 1) es = rw (add-one, drop-cons es i e low, ← is) refl in
    ap all_bytes left ∙ all_next e (drop (i + 1) es) ∙ ap (λ n. n + all_bytes (drop (i + 1) es)) (sym size)

pub all_passed : (es : List Element) (i : ℕ) → length es ≤ i → all_bytes (drop i es) ≡ 0
all_passed es i end = ap all_bytes (drop_all i es end)

-- ---- what is visible of them
one_of_all : (e : Element) → length (visible_text (e ∷ [])) ≤ length (encode_utf8 e.character)
one_of_all e =
    ⊎_elim
    (λ (t : e.visible ≡ true). let is = ap length (visible_one e t) in omega (arith, is))
    (λ (f : e.visible ≡ false). let is = ap length (hidden_one e f) in omega (arith, is))
    (cases_Bool e.visible)

pub visible_of_all : (es : List Element) → length (visible_text es) ≤ all_bytes es
visible_of_all [] = let none = ap length visible_none in omega (arith, none)
visible_of_all (e ∷ es) =
    let rest = visible_of_all es in
    let one = one_of_all e in
    let shown = bytes_next e es in
    let all = all_next e es in
    omega (arith, rest, one, shown, all)

-- a hidden character is beside those that are visible
pub hidden_of_all : (es : List Element) (k : ℕ) (x : Element) → slice_get es k ≡ Some x → x.visible ≡ false → length (visible_text es) + length (encode_utf8 x.character) ≤ all_bytes es
hidden_of_all [] k x g f = absurd (none-some x g)
hidden_of_all (e ∷ es) zero x g f =
    let same = same_Some e x g in
    let none = ap length (hidden_one e (ap (λ (z : Element). z.visible) same ∙ f)) in
    let one = ap (λ (z : Element). length (encode_utf8 z.character)) same in
    let rest = visible_of_all es in
    let shown = bytes_next e es in
    let all = all_next e es in
    omega (arith, none, one, rest, shown, all)
hidden_of_all (e ∷ es) (suc k) x g f =
    let rest = hidden_of_all es k x g f in
    let one = one_of_all e in
    let shown = bytes_next e es in
    let all = all_next e es in
    omega (arith, rest, one, shown, all)

-- ---- all of them as if they were visible
abbrev bare : Element → Element
bare e = seen_as e.id e.character

bare_bytes : (es : List Element) → length (visible_text (map bare es)) ≡ all_bytes es
bare_bytes [] = ap length visible_none
bare_bytes (e ∷ es) =
    let rest = bare_bytes es in
    let one = ap length (visible_one (bare e) refl) in
    let shown = bytes_next (bare e) (map bare es) in
    let all = all_next e es in
    omega (arith, rest, one, shown, all)

bare_from : (es : List Element) (k : ℕ) (y : Element) → slice_get (map bare es) k ≡ Some y → (e : Element) × (slice_get es k ≡ Some e) × (bare e ≡ y)
bare_from [] k y g = absurd (none-some y g)
bare_from (e ∷ es) zero y g = (e, refl, same_Some (bare e) y g)
bare_from (e ∷ es) (suc k) y g = bare_from es k y g

bare_at : (es : List Element) (k : ℕ) (e : Element) → slice_get es k ≡ Some e → slice_get (map bare es) k ≡ Some (bare e)
bare_at [] k e g = absurd (none-some e g)
bare_at (x ∷ xs) zero e g = ap (λ (z : Element). Some (bare z)) (same_Some x e g)
bare_at (x ∷ xs) (suc k) e g = bare_at xs k e g

-- ---- what operations insert
-- the characters that operations insert, with no more bytes than these
record Inserted (added : List Op) : Type 0 where
  elements : List Element
  few : length (visible_text elements) ≤ sum_by bytes_of added
  inserted : (x : OpId) (p : Option OpId) (c : ℕ) → Contains added (Insert x p c) → (j : ℕ) × (slice_get elements j ≡ Some (seen_as x c))

inserts_none : (op : Op) (ops : List Op) → Inserted ops → ((x : OpId) (p : Option OpId) (c : ℕ) → op ≡ Insert x p c → ⊥) → Inserted (op ∷ ops)
inserts_none op ops g never = record {
  elements = g.elements;
  few = let rest = g.few in let total = sum_by-cons bytes_of op ops in omega (arith, rest, total);
  inserted =
      λ x p c h.
      ⊎_elim
      (λ (now : op ≡ Insert x p c). absurd (never x p c now))
      (λ (old : Contains ops (Insert x p c)). g.inserted x p c old)
      (cons_cases op ops (Insert x p c) h);
}

inserts_one : (id : OpId) (parent : Option OpId) (d : ℕ) (ops : List Op) → Inserted ops → Inserted (Insert id parent d ∷ ops)
inserts_one id parent d ops g =
    let e : Element = seen_as id d in
    record {
      elements = e ∷ g.elements;
      few =
          let rest = g.few in
          let one = ap length (visible_one e refl) in
          let whole = bytes_next e g.elements in
          let total = sum_by-cons bytes_of (Insert id parent d) ops in
          omega (arith, rest, one, whole, total);
      inserted =
          λ x p c h.
          ⊎_elim
          (λ (now : Insert id parent d ≡ Insert x p c).
          let both = same_insert id x parent p d c now in
          (zero, ap Some (same_elements e (seen_as x c) both.0 both.1 refl)))
          (λ (old : Contains ops (Insert x p c)). let r = g.inserted x p c old in (suc r.0, r.1))
          (cons_cases (Insert id parent d) ops (Insert x p c) h);
    }

inserts : (added : List Op) → Inserted added
inserts [] = record {
  elements = [];
  few = let none = ap length visible_none in omega (arith, none);
  inserted = λ x p c there. absurd (nothing_there (Insert x p c) there);
}
inserts (Insert id p c ∷ ops) = inserts_one id p c ops (inserts ops)
inserts (Remove id target ∷ ops) = inserts_none (Remove id target) ops (inserts ops) (remove_no_insert id target)
inserts (AddMark id attribute start end ∷ ops) = inserts_none (AddMark id attribute start end) ops (inserts ops) (mark_no_insert id attribute start end)
inserts (RemoveMark id key start end ∷ ops) = inserts_none (RemoveMark id key start end) ops (inserts ops) (unmark_no_insert id key start end)
inserts (Revive id removal ∷ ops) = inserts_none (Revive id removal) ops (inserts ops) (revive_no_insert id removal)

-- ---- as operations are added
comes_from_all : (ops added : List Op) (es later : List Element) → Shows es ops → Shows later (ops ++ added) → (g : Inserted added) → (k : ℕ) (y : Element) → slice_get (map bare later) k ≡ Some y → (j : ℕ) × (slice_get (map bare es ++ g.elements) j ≡ Some y)
comes_from_all ops added es later h s g k y at =
    let of = bare_from later k y at in
    let e : Element = of.0 in
    let from = s.text.inserted k e of.1 in
    let op : Op = Insert e.id from.0 e.character in
    ⊎_elim
    (λ (was : Contains ops op).
    let r = h.text.listed e.id from.0 e.character was in
    let old : Element = r.1.0 in
    let here = bare_at es r.0 old r.1.1 in
    let same : bare old ≡ bare e = same_elements (bare old) (bare e) r.1.2 r.1.3 refl in
    (r.0, get_left (map bare es) g.elements r.0 (slice_get_within (map bare es) r.0 (bare old) here) ∙ here ∙ ap Some (same ∙ of.2)))
    (λ (new : Contains added op).
    let q = g.inserted e.id from.0 e.character new in
    (length (map bare es) + q.0, get_right (map bare es) g.elements q.0 (length (map bare es) + q.0) refl ∙ q.1 ∙ ap Some of.2))
    (Contains-append_cases ops added op from.1)

bare_apart : (ops : List Op) (es : List Element) → Shows es ops → (i j : ℕ) (x y : Element) → i < j → slice_get (map bare es) i ≡ Some x → slice_get (map bare es) j ≡ Some y → x ≡ y → ⊥
bare_apart ops es s i j x y l at k same =
    let a = bare_from es i x at in
    let b = bare_from es j y k in
    let one : a.0.id ≡ b.0.id = ap (λ (z : Element). z.id) (a.2 ∙ same ∙ sym b.2) in
    before_irrefl ops s.tree b.0.id (subst (λ z. Before ops (Some z) b.0.id) one (s.text.ordered i j a.0 b.0 l a.1 b.1))

pub all_grown : (ops added : List Op) (es later : List Element) → Shows es ops → Shows later (ops ++ added) → all_bytes later ≤ all_bytes es + sum_by bytes_of added
all_grown ops added es later h s =
    let g : Inserted added = inserts added in
    let most = covered (map bare later) (map bare es ++ g.elements) (bare_apart (ops ++ added) later s) (λ i x at seen. comes_from_all ops added es later h s g i x at) in
    let both = bytes_append (map bare es) g.elements in
    let few = g.few in
    let old = bare_bytes es in
    let new = bare_bytes later in
    omega (arith, most, both, few, old, new)

-- ---- where there is no room for a character
-- all characters with the one that is inserted are too many: what a revival shows is one of them
pub all_over : (ops : List Op) (op : Op) (none : HasNoRoom ops op) → most_bytes < all_bytes none.0 + bytes_of op
all_over ops (Insert id p d) none =
    let one = ap (λ n. length (encode_utf8 n)) none.3 in
    let over = none.4 in
    let most = visible_of_all none.0 in
    omega (arith, one, over, most)
all_over ops (Remove id target) none = absurd none.3
all_over ops (AddMark id attribute start end) none = absurd none.3
all_over ops (RemoveMark id key start end) none = absurd none.3
all_over ops (Revive id removal) (es, d, shown, (x, p, i, alone), over) =
    let at = shown.text.listed x p d i in
    let e : Element = at.1.0 in
    let hidden : e.visible ≡ false =
    ⊎_elim
    (λ (t : e.visible ≡ true). absurd (shown.text.shown at.0 e at.1.1 t (subst (λ z. IsHidden ops z) (sym at.1.2) (removal, alone.removes, alone.stands))))
    (λ (f : e.visible ≡ false). f)
    (cases_Bool e.visible)
    in
    let most = hidden_of_all es at.0 e at.1.1 hidden in
    let one = ap (λ n. length (encode_utf8 n)) at.1.3 in
    omega (arith, most, one, over)
