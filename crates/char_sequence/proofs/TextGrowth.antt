-- How much longer the visible text is with more operations: no longer than by what they insert and show again.
use Rattle.std.proofs.Common.{◌≡◌, ℕ, zero, suc, ◌+◌, ◌<◌, ◌≤◌, true, false, List, [], ◌∷◌, ◌++◌, Option, Some, length, map, sym, ap, refl, ◌∙◌, subst, arith, ⊎_elim}
use Rattle.std.specs.List.{slice_get, sum, Contains}
use Rattle.std.specs.Char.{encode_utf8}
use Rattle.std.proofs.lemmas.Bool.{cases_Bool}
use Rattle.std.proofs.lemmas.Option.{same_Some, none-some, slice_get_within}
use Rattle.std.proofs.lemmas.List.Sums.{sum_by-cons}
use Rattle.std.proofs.lemmas.List.Elements.{Contains-append_left, Contains-append_right, Contains-append_cases}
use Rattle.change_ops.specs.declared.id.OpId.{OpId}
use Rattle.change_ops.specs.declared.attribute.Attribute.{Attribute}
use Rattle.change_ops.specs.declared.attribute.Key.{Key}
use Rattle.change_ops.specs.declared.operation.Anchor.{Anchor}
use Rattle.change_ops.specs.declared.operation.Op.{Op}
use Rattle.change_ops.specs.declared.operation.Op.TheVariants.{Insert, Remove, AddMark, RemoveMark, Revive}
use Rattle.char_sequence.specs.declared.sequence.Element.{Element}
use Rattle.char_sequence.specs.Tree.{IsTakenBack, IsHidden}
use Rattle.char_sequence.specs.Acceptance.{most_growth}
use Rattle.char_sequence.proofs.Deciding.{nothing_there, cons_cases, at_front, behind_front, back_or_not}
use Rattle.char_sequence.specs.Order.{Before, Shows}
use Rattle.char_sequence.specs.Visible.{visible_text}
use Rattle.char_sequence.proofs.TreeLaws.{before_irrefl}
use Rattle.char_sequence.proofs.Joined.{get_left, get_right}
use Rattle.char_sequence.proofs.OneOrder.{same_elements}
use Rattle.char_sequence.proofs.VisibleText.{visible_none, visible_one, hidden_one, one_most, bytes_append, bytes_next}

-- ---- a list among another
abbrev without : List Element → ℕ → List Element
without [] i = []
without (y ∷ ys) zero = ys
without (y ∷ ys) (suc i) = y ∷ without ys i

without_bytes : (ys : List Element) (i : ℕ) (y : Element) → slice_get ys i ≡ Some y → length (visible_text (without ys i)) + length (visible_text (y ∷ [])) ≡ length (visible_text ys)
without_bytes [] i y g = absurd (none-some y g)
without_bytes (z ∷ zs) zero y g =
    let same = ap (λ e. length (visible_text (e ∷ []))) (same_Some z y g) in
    let whole = bytes_next z zs in
    omega (arith, same, whole)
without_bytes (z ∷ zs) (suc i) y g =
    let rest = without_bytes zs i y g in
    let less = bytes_next z (without zs i) in
    let whole = bytes_next z zs in
    omega (arith, rest, less, whole)

still_there : (ys : List Element) (i j : ℕ) (y z : Element) → slice_get ys i ≡ Some y → slice_get ys j ≡ Some z → (y ≡ z → ⊥) → (k : ℕ) × (slice_get (without ys i) k ≡ Some z)
still_there [] i j y z g h other = absurd (none-some y g)
still_there (x ∷ xs) zero zero y z g h other = absurd (other (sym (same_Some x y g) ∙ same_Some x z h))
still_there (x ∷ xs) zero (suc j) y z g h other = (j, h)
still_there (x ∷ xs) (suc i) zero y z g h other = (zero, h)
still_there (x ∷ xs) (suc i) (suc j) y z g h other = let r = still_there xs i j y z g h other in (suc r.0, r.1)

-- elements with ids of their own, the visible ones of which are among others, have no longer a text than these
pub covered : (xs ys : List Element) → ((i j : ℕ) (x y : Element) → i < j → slice_get xs i ≡ Some x → slice_get xs j ≡ Some y → x ≡ y → ⊥) → ((i : ℕ) (x : Element) → slice_get xs i ≡ Some x → x.visible ≡ true → (j : ℕ) × (slice_get ys j ≡ Some x)) → length (visible_text xs) ≤ length (visible_text ys)
covered [] ys apart there = let none = ap length visible_none in omega (arith, none)
covered (x ∷ xs) ys apart there =
    let whole = bytes_next x xs in
    ⊎_elim
    (λ (shown : x.visible ≡ true).
    let at = there zero x refl shown in
    let rest =
    covered xs (without ys at.0) (λ i j a b l g h. apart (suc i) (suc j) a b (omega arith) g h)
    (λ i z g seen.
    let q = there (suc i) z g seen in
    still_there ys at.0 q.0 x z at.1 q.1 (apart zero (suc i) x z (omega arith) refl g))
    in
    let less = without_bytes ys at.0 x at.1 in
    omega (arith, whole, rest, less))
    (λ (hidden : x.visible ≡ false).
    let rest = covered xs ys (λ i j a b l g h. apart (suc i) (suc j) a b (omega arith) g h) (λ i z g seen. there (suc i) z g seen) in
    let none = ap length (hidden_one x hidden) in
    omega (arith, whole, rest, none))
    (cases_Bool x.visible)

-- ---- the characters that operations may show
abbrev pub seen_as : OpId → ℕ → Element
seen_as x c = record { id = x; character = c; visible = true }

-- elements with the characters that the operations insert and show again, with no more bytes than these may add
record Gains (all added : List Op) : Type 0 where
  elements : List Element
  few : length (visible_text elements) ≤ sum (map most_growth added)
  inserted : (x : OpId) (p : Option OpId) (c : ℕ) → Contains added (Insert x p c) → (j : ℕ) × (slice_get elements j ≡ Some (seen_as x c))
  revived : (v r x : OpId) (p : Option OpId) (c : ℕ) → Contains added (Revive v r) → Contains all (Remove r x) → Contains all (Insert x p c) → (j : ℕ) × (slice_get elements j ≡ Some (seen_as x c))

gain_more : (all : List Op) (op : Op) (ops : List Op) (e : Element) → Gains all ops → length (visible_text (e ∷ [])) ≤ most_growth op → ((x : OpId) (p : Option OpId) (c : ℕ) → op ≡ Insert x p c → e ≡ seen_as x c) → ((v r x : OpId) (p : Option OpId) (c : ℕ) → op ≡ Revive v r → Contains all (Remove r x) → Contains all (Insert x p c) → e ≡ seen_as x c) → Gains all (op ∷ ops)
gain_more all op ops e g fits insert revival = record {
  elements = e ∷ g.elements;
  few =
      let rest = g.few in
      let whole = bytes_next e g.elements in
      let total : sum (map most_growth (op ∷ ops)) ≡ most_growth op + sum (map most_growth ops) = sum_by-cons (λ n. n) (most_growth op) (map most_growth ops) in
      omega (arith, rest, whole, fits, total);
  inserted =
      λ x p c h.
      ⊎_elim
      (λ (now : op ≡ Insert x p c). (zero, ap Some (insert x p c now)))
      (λ (old : Contains ops (Insert x p c)). let r = g.inserted x p c old in (suc r.0, r.1))
      (cons_cases op ops (Insert x p c) h);
  revived =
      λ v r x p c h gone there.
      ⊎_elim
      (λ (now : op ≡ Revive v r). (zero, ap Some (revival v r x p c now gone there)))
      (λ (old : Contains ops (Revive v r)). let q = g.revived v r x p c old gone there in (suc q.0, q.1))
      (cons_cases op ops (Revive v r) h);
}

gain_none : (all : List Op) (op : Op) (ops : List Op) → Gains all ops → ((x : OpId) (p : Option OpId) (c : ℕ) → op ≡ Insert x p c → ⊥) → ((v r : OpId) → op ≡ Revive v r → ⊥) → Gains all (op ∷ ops)
gain_none all op ops g no_insert no_revival = record {
  elements = g.elements;
  few =
      let rest = g.few in
      let total : sum (map most_growth (op ∷ ops)) ≡ most_growth op + sum (map most_growth ops) = sum_by-cons (λ n. n) (most_growth op) (map most_growth ops) in
      omega (arith, rest, total);
  inserted =
      λ x p c h.
      ⊎_elim
      (λ (now : op ≡ Insert x p c). absurd (no_insert x p c now))
      (λ (old : Contains ops (Insert x p c)). g.inserted x p c old)
      (cons_cases op ops (Insert x p c) h);
  revived =
      λ v r x p c h gone there.
      ⊎_elim
      (λ (now : op ≡ Revive v r). absurd (no_revival v r now))
      (λ (old : Contains ops (Revive v r)). g.revived v r x p c old gone there)
      (cons_cases op ops (Revive v r) h);
}

pub same_insert : (x y : OpId) (p q : Option OpId) (c d : ℕ) → Insert x p c ≡ Insert y q d → (x ≡ y) × (c ≡ d)
same_insert x y p q c d e =
    let first : x ≡ y = cc in
    let second : c ≡ d = cc in
    (first, second)

insert_no_revival : (x : OpId) (p : Option OpId) (c : ℕ) (v r : OpId) → Insert x p c ≡ Revive v r → ⊥
insert_no_revival x p c v r e = cc

pub revive_no_insert : (v r x : OpId) (p : Option OpId) (c : ℕ) → Revive v r ≡ Insert x p c → ⊥
revive_no_insert v r x p c e = cc

same_revival : (v r w s : OpId) → Revive v r ≡ Revive w s → r ≡ s
same_revival v r w s e = cc

same_removal : (r x s y : OpId) → Remove r x ≡ Remove s y → x ≡ y
same_removal r x s y e = cc

pub remove_no_insert : (r y x : OpId) (p : Option OpId) (c : ℕ) → Remove r y ≡ Insert x p c → ⊥
remove_no_insert r y x p c e = cc

remove_no_revival : (s y v r : OpId) → Remove s y ≡ Revive v r → ⊥
remove_no_revival s y v r e = cc

pub mark_no_insert : (id : OpId) (attribute : Attribute) (start end : Anchor) (x : OpId) (p : Option OpId) (c : ℕ) → AddMark id attribute start end ≡ Insert x p c → ⊥
mark_no_insert id attribute start end x p c e = cc

mark_no_revival : (id : OpId) (attribute : Attribute) (start end : Anchor) (v r : OpId) → AddMark id attribute start end ≡ Revive v r → ⊥
mark_no_revival id attribute start end v r e = cc

pub unmark_no_insert : (id : OpId) (key : Key) (start end : Anchor) (x : OpId) (p : Option OpId) (c : ℕ) → RemoveMark id key start end ≡ Insert x p c → ⊥
unmark_no_insert id key start end x p c e = cc

unmark_no_revival : (id : OpId) (key : Key) (start end : Anchor) (v r : OpId) → RemoveMark id key start end ≡ Revive v r → ⊥
unmark_no_revival id key start end v r e = cc

gain_insert : (all ops : List Op) (id : OpId) (p : Option OpId) (c : ℕ) → Gains all ops → Gains all (Insert id p c ∷ ops)
gain_insert all ops id p c g =
    let e : Element = seen_as id c in
    let one : length (visible_text (e ∷ [])) ≡ length (encode_utf8 c) = ap length (visible_one e refl) in
    gain_more all (Insert id p c) ops e g (omega (arith, one))
    (λ x q d same. let both = same_insert id x p q c d same in same_elements e (seen_as x d) both.0 both.1 refl)
    (λ v r x q d same gone there. absurd (insert_no_revival id p c v r same))

gain_revival : (all ops : List Op) (later : List Element) → Shows later all → (id removal : OpId) → Contains all (Revive id removal) → Gains all ops → Gains all (Revive id removal ∷ ops)
gain_revival all ops later h id removal here g =
    let of = h.removals (Revive id removal) removal here refl in
    let target : OpId = of.0 in
    let from = h.named (Remove removal target) target of.1 refl in
    let c : ℕ = from.1.0 in
    let e : Element = seen_as target c in
    gain_more all (Revive id removal) ops e g (one_most e)
    (λ x q d same. absurd (revive_no_insert id removal x q d same))
    (λ v r x q d same gone there.
    let is : removal ≡ r = same_revival id removal v r same in
    let one : target ≡ x = same_removal removal target r x (h.distinct (Remove removal target) (Remove r x) of.1 gone is) in
    let two = same_insert target x from.0 q c d (h.distinct (Insert target from.0 c) (Insert x q d) from.1.1 there one) in
    same_elements e (seen_as x d) one two.1 refl)

gains : (all : List Op) (later : List Element) → Shows later all → (added : List Op) → ((o : Op) → Contains added o → Contains all o) → Gains all added
gains all later h [] within = record {
  elements = [];
  few = let none = ap length visible_none in omega (arith, none);
  inserted = λ x p c there. absurd (nothing_there (Insert x p c) there);
  revived = λ v r x p c there gone ins. absurd (nothing_there (Revive v r) there);
}
gains all later h (Insert id p c ∷ ops) within =
    gain_insert all ops id p c (gains all later h ops (λ o there. within o (behind_front (Insert id p c) ops o there)))
gains all later h (Remove id target ∷ ops) within =
    gain_none all (Remove id target) ops (gains all later h ops (λ o there. within o (behind_front (Remove id target) ops o there))) (remove_no_insert id target) (remove_no_revival id target)
gains all later h (AddMark id attribute start end ∷ ops) within =
    gain_none all (AddMark id attribute start end) ops (gains all later h ops (λ o there. within o (behind_front (AddMark id attribute start end) ops o there))) (mark_no_insert id attribute start end) (mark_no_revival id attribute start end)
gains all later h (RemoveMark id key start end ∷ ops) within =
    gain_none all (RemoveMark id key start end) ops (gains all later h ops (λ o there. within o (behind_front (RemoveMark id key start end) ops o there))) (unmark_no_insert id key start end) (unmark_no_revival id key start end)
gains all later h (Revive id removal ∷ ops) within =
    gain_revival all ops later h id removal (within (Revive id removal) (at_front (Revive id removal) ops)) (gains all later h ops (λ o there. within o (behind_front (Revive id removal) ops o there)))

-- ---- where each visible character comes from
-- a removal that hid the character is taken back by an operation that was added
revived_since : (ops added : List Op) (later : List Element) (r x : OpId) → Shows later (ops ++ added) → Contains ops (Remove r x) → (IsTakenBack ops r → ⊥) → (IsHidden (ops ++ added) x → ⊥) → (v : OpId) × Contains added (Revive v r)
revived_since ops added later r x s removes stands shown =
    ⊎_elim
    (λ (b : IsTakenBack (ops ++ added) r).
    ⊎_elim
    (λ (old : Contains ops (Revive b.0 r)). absurd (stands (b.0, old)))
    (λ (new : Contains added (Revive b.0 r)). (b.0, new))
    (Contains-append_cases ops added (Revive b.0 r) b.1))
    (λ (none : IsTakenBack (ops ++ added) r → ⊥). absurd (shown (r, Contains-append_left ops added (Remove r x) removes, none)))
    (back_or_not (ops ++ added) r)

right_of : (es elements : List Element) (e : Element) (x : OpId) (c : ℕ) → x ≡ e.id → c ≡ e.character → e.visible ≡ true → (j : ℕ) × (slice_get elements j ≡ Some (seen_as x c)) → (j : ℕ) × (slice_get (es ++ elements) j ≡ Some e)
right_of es elements e x c id character seen (j, at) =
    (length es + j, get_right es elements j (length es + j) refl ∙ at ∙ ap Some (same_elements (seen_as x c) e id character (sym seen)))

comes_from : (ops added : List Op) (es later : List Element) → Shows es ops → Shows later (ops ++ added) → (g : Gains (ops ++ added) added) → (k : ℕ) (e : Element) → slice_get later k ≡ Some e → e.visible ≡ true → (j : ℕ) × (slice_get (es ++ g.elements) j ≡ Some e)
comes_from ops added es later h s g k e at seen =
    let from = s.text.inserted k e at in
    let op : Op = Insert e.id from.0 e.character in
    ⊎_elim
    (λ (was : Contains ops op).
    let r = h.text.listed e.id from.0 e.character was in
    let old : Element = r.1.0 in
    let is : old.id ≡ e.id = r.1.2 in
    ⊎_elim
    (λ (t : old.visible ≡ true).
    let same : old ≡ e = same_elements old e is r.1.3 (t ∙ sym seen) in
    (r.0, get_left es g.elements r.0 (slice_get_within es r.0 old r.1.1) ∙ r.1.1 ∙ ap Some same))
    (λ (f : old.visible ≡ false).
    let gone = h.text.hidden r.0 old r.1.1 f in
    let removes : Contains ops (Remove gone.0 e.id) = subst (λ z. Contains ops (Remove gone.0 z)) is gone.1 in
    let by = revived_since ops added later gone.0 e.id s removes gone.2 (s.text.shown k e at seen) in
    right_of es g.elements e e.id e.character refl refl seen
    (g.revived by.0 gone.0 e.id from.0 e.character by.1 (Contains-append_left ops added (Remove gone.0 e.id) removes) from.1))
    (cases_Bool old.visible))
    (λ (new : Contains added op). right_of es g.elements e e.id e.character refl refl seen (g.inserted e.id from.0 e.character new))
    (Contains-append_cases ops added op from.1)

pub text_grown : (ops added : List Op) (es later : List Element) → Shows es ops → Shows later (ops ++ added) → length (visible_text later) ≤ length (visible_text es) + sum (map most_growth added)
text_grown ops added es later h s =
    let g : Gains (ops ++ added) added = gains (ops ++ added) later s added (λ o c. Contains-append_right ops added o c) in
    let most =
    covered later (es ++ g.elements)
    (λ i j x y l at k same. before_irrefl (ops ++ added) s.tree y.id (subst (λ (z : Element). Before (ops ++ added) (Some z.id) y.id) same (s.text.ordered i j x y l at k)))
    (comes_from ops added es later h s g)
    in
    let both = bytes_append es g.elements in
    let few = g.few in
    omega (arith, most, both, few)
