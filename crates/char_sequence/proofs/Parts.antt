-- Acceptance over all operations, and over a part that has all their inserts, removals and revivals.
-- A crate above keeps the marks apart: its sequence holds the part, and its own contracts speak of all operations.
use Rattle.std.proofs.Common.{◌≡◌, ℕ, false, cond, List, [], ◌∷◌, ◌++◌, Option, Some, None, inl, inr, sym, ap, refl, ◌∙◌, subst, arith, ⊎_elim, add-zero}
use Rattle.std.specs.Prelude.{Result, Ok, Err, ◌+◌}
use Rattle.std.specs.List.{Contains, count_by}
use Rattle.std.proofs.lemmas.Bool.{false≢true}
use Rattle.std.proofs.lemmas.List.Elements.{Contains-append_left, Contains-push, Contains-push_cases}
use Rattle.change_ops.specs.Operations.{id_of, is_insert, Names, NamesRemoval}
use Rattle.change_ops.specs.declared.id.OpId.{OpId}
use Rattle.change_ops.specs.declared.attribute.Attribute.{Attribute}
use Rattle.change_ops.specs.declared.attribute.Key.{Key}
use Rattle.change_ops.specs.declared.operation.Anchor.{Anchor}
use Rattle.change_ops.specs.declared.operation.Op.{Op}
use Rattle.change_ops.specs.declared.operation.Op.TheVariants.{Insert, Remove, AddMark, RemoveMark, Revive}
use Rattle.change_ops.specs.declared.size.Size.{Size}
use Rattle.char_sequence.specs.declared.sequence.Element.{Element}
use Rattle.char_sequence.specs.declared.sequence.SequenceError.{SequenceError}
use Rattle.char_sequence.specs.declared.sequence.SequenceError.TheVariants.{StaleCounter, UnknownRef, DocumentFull}
use Rattle.char_sequence.specs.Tree.{Present, IsRemoval, IsTree}
use Rattle.char_sequence.specs.Order.{IsText, Shows}
use Rattle.char_sequence.specs.Acceptance.{Used, IsStale, IsUnknown, IsFull, Accepts, Checked}
use Rattle.char_sequence.specs.Held.{HasInserts}
use Rattle.char_sequence.proofs.Holding.{count_push, shows_other}
use Rattle.char_sequence.proofs.Hiding.{SameRemovals, same_removals_of_part, same_removals_sym, hidden_same, shows_same}
use Rattle.char_sequence.proofs.OneOrder.{one_text}
use Rattle.char_sequence.proofs.TreeLaws.{Grows, before_kept, within_kept}

-- ---- the part
pub no_part : HasInserts [] []
no_part = record { within = λ o h. h; inserts = λ o i h. h; removes = λ r x h. h; revives = λ v r h. h; count = refl }

-- an operation that both take
pub part_both : (all part : List Op) (op : Op) → HasInserts all part → HasInserts (all ++ op ∷ []) (part ++ op ∷ [])
part_both all part op h = record {
  within =
      λ o c.
      ⊎_elim
      (λ (u : Contains part o). Contains-append_left all (op ∷ []) o (h.within o u))
      (λ (u : op ≡ o). subst (λ z. Contains (all ++ op ∷ []) z) u (Contains-push all op))
      (Contains-push_cases part op o c);
  inserts =
      λ o i c.
      ⊎_elim
      (λ (u : Contains all o). Contains-append_left part (op ∷ []) o (h.inserts o i u))
      (λ (u : op ≡ o). subst (λ z. Contains (part ++ op ∷ []) z) u (Contains-push part op))
      (Contains-push_cases all op o c);
  removes =
      λ r x c.
      ⊎_elim
      (λ (u : Contains all (Remove r x)). Contains-append_left part (op ∷ []) (Remove r x) (h.removes r x u))
      (λ (u : op ≡ Remove r x). subst (λ z. Contains (part ++ op ∷ []) z) u (Contains-push part op))
      (Contains-push_cases all op (Remove r x) c);
  revives =
      λ v r c.
      ⊎_elim
      (λ (u : Contains all (Revive v r)). Contains-append_left part (op ∷ []) (Revive v r) (h.revives v r u))
      (λ (u : op ≡ Revive v r). subst (λ z. Contains (part ++ op ∷ []) z) u (Contains-push part op))
      (Contains-push_cases all op (Revive v r) c);
  count = count_push is_insert part op ∙ ap (λ n. n + cond (is_insert op) 1 0) h.count ∙ sym (count_push is_insert all op);
}

-- an operation that only the whole takes, as a mark
pub part_rest : (all part : List Op) (op : Op) → is_insert op ≡ false → ((r x : OpId) → op ≡ Remove r x → ⊥) → ((v r : OpId) → op ≡ Revive v r → ⊥) → HasInserts all part → HasInserts (all ++ op ∷ []) part
part_rest all part op rest no_removal no_revival h = record {
  within = λ o c. Contains-append_left all (op ∷ []) o (h.within o c);
  inserts =
      λ o i c.
      ⊎_elim
      (λ (u : Contains all o). h.inserts o i u)
      (λ (u : op ≡ o). absurd (false≢true (sym rest ∙ ap is_insert u ∙ i)))
      (Contains-push_cases all op o c);
  removes =
      λ r x c.
      ⊎_elim
      (λ (u : Contains all (Remove r x)). h.removes r x u)
      (λ (u : op ≡ Remove r x). absurd (no_removal r x u))
      (Contains-push_cases all op (Remove r x) c);
  revives =
      λ v r c.
      ⊎_elim
      (λ (u : Contains all (Revive v r)). h.revives v r u)
      (λ (u : op ≡ Revive v r). absurd (no_revival v r u))
      (Contains-push_cases all op (Revive v r) c);
  count =
      h.count ∙ sym (count_push is_insert all op ∙ ap (λ b. count_by is_insert all + cond b 1 0) rest ∙ add-zero (count_by is_insert all));
}

pub present_part : (all part : List Op) → HasInserts all part → (x : OpId) → Present all x → Present part x
present_part all part h x present = (present.0, (present.1.0, h.inserts (Insert x present.0 present.1.0) refl present.1.1))

pub present_all : (all part : List Op) → HasInserts all part → (x : OpId) → Present part x → Present all x
present_all all part h x present = (present.0, (present.1.0, h.within (Insert x present.0 present.1.0) present.1.1))

pub removal_part : (all part : List Op) → HasInserts all part → (r : OpId) → IsRemoval all r → IsRemoval part r
removal_part all part h r removal = (removal.0, h.removes r removal.0 removal.1)

pub removal_all : (all part : List Op) → HasInserts all part → (r : OpId) → IsRemoval part r → IsRemoval all r
removal_all all part h r removal = (removal.0, h.within (Remove r removal.0) removal.1)

-- ---- what they show
tree_part : (all part : List Op) → HasInserts all part → IsTree all → IsTree part
tree_part all part h t =
    let old : Grows part all = λ x p i. (i.0, h.within (Insert x p i.0) i.1) in
    let new : Grows all part = λ x p i. (i.0, h.inserts (Insert x p i.0) refl i.1) in record {
      one = λ x p q i j. t.one x p q (old x p i) (old x q j);
      grows = λ x p i. t.grows x p (old x (Some p) i);
      rooted = λ x p i. within_kept all part new None p (t.rooted x p (old x p i));
    }

pub shows_part : (all part : List Op) → HasInserts all part → (es : List Element) → Shows es all → Shows es part
shows_part all part h es s =
    let text = s.text in
    let same : SameRemovals all part = same_removals_of_part all part h in record {
      tree = tree_part all part h s.tree;
      distinct = λ o p c d e. s.distinct o p (h.within o c) (h.within p d) e;
      named = λ o x c n. present_part all part h x (s.named o x (h.within o c) n);
      removals = λ o r c n. removal_part all part h r (s.removals o r (h.within o c) n);
      text = record {
        ordered = λ i j x y less g k. before_kept all part (λ z p i. (i.0, h.inserts (Insert z p i.0) refl i.1)) (Some x.id) y.id (text.ordered i j x y less g k);
        listed = λ x p c i. text.listed x p c (h.within (Insert x p c) i);
        inserted = λ i e g. let r = text.inserted i e g in (r.0, h.inserts (Insert e.id r.0 e.character) refl r.1);
        shown = λ i e g shows r. text.shown i e g shows (hidden_same part all (same_removals_sym all part same) e.id r);
        hidden = λ i e g hides. hidden_same all part same e.id (text.hidden i e g hides);
      };
    }

-- where the whole shows elements, they are those of the part
pub shown_all : (all part : List Op) → HasInserts all part → (seen es : List Element) → Shows seen all → Shows es part → Shows es all
shown_all all part h seen es s shown =
    let both = shows_part all part h seen s in
    subst (λ l. Shows l all) (one_text part both.tree seen es both.text shown.text) s

-- elements that show the part show the whole, if it is as acceptance keeps operations
pub shows_whole : (all part : List Op) → HasInserts all part → (es : List Element) → IsTree all → ((o p : Op) → Contains all o → Contains all p → id_of o ≡ id_of p → o ≡ p) → ((o : Op) (x : OpId) → Contains all o → Names o x → Present all x) → ((o : Op) (r : OpId) → Contains all o → NamesRemoval o r → IsRemoval all r) → IsText part es → Shows es all
shows_whole all part h es tree distinct named removals text =
    let same : SameRemovals all part = same_removals_of_part all part h in record {
      tree = tree;
      distinct = distinct;
      named = named;
      removals = removals;
      text = record {
        ordered = λ i j x y less g k. before_kept part all (λ z p i. (i.0, h.within (Insert z p i.0) i.1)) (Some x.id) y.id (text.ordered i j x y less g k);
        listed = λ x p c i. text.listed x p c (h.inserts (Insert x p c) refl i);
        inserted = λ i e g. let r = text.inserted i e g in (r.0, h.within (Insert e.id r.0 e.character) r.1);
        shown = λ i e g shows r. text.shown i e g shows (hidden_same all part same e.id r);
        hidden = λ i e g hides. hidden_same part all (same_removals_sym all part same) e.id (text.hidden i e g hides);
      };
    }

-- ---- acceptance
pub used_all : (all part : List Op) → HasInserts all part → (id : OpId) → Used part id → Used all id
used_all all part h id u = (u.0, h.within u.0 u.1, u.2, u.3)

pub stale_all : (all part : List Op) → HasInserts all part → (op : Op) → IsStale part op → IsStale all op
stale_all all part h op (inl u) = inl (used_all all part h (id_of op) u)
stale_all all part h op (inr n) = inr n

-- where no operation used the id, both say the same
pub stale_part : (all part : List Op) (op : Op) → (Used all (id_of op) → ⊥) → IsStale all op → IsStale part op
stale_part all part op unused (inl u) = absurd (unused u)
stale_part all part op unused (inr n) = inr n

pub full_part : (size : Size) (all part : List Op) → HasInserts all part → (op : Op) → IsFull size all op → IsFull size part op
full_part size all part h op (inl (insert, many)) = let same = h.count in inl (insert, omega arith)
full_part size all part h op (inr (es, c, shows, shown, more)) =
    inr (es, c, shows_part all part h es shows, shows_same all part (same_removals_of_part all part h) (λ x p d i. (p, h.inserts (Insert x p d) refl i)) op c shown, more)

pub full_all : (size : Size) (all part : List Op) → HasInserts all part → (seen : List Element) → Shows seen all → (op : Op) → IsFull size part op → IsFull size all op
full_all size all part h seen s op (inl (insert, many)) = let same = h.count in inl (insert, omega arith)
full_all size all part h seen s op (inr (es, c, shows, shown, more)) =
    inr (es, c, shown_all all part h seen es s shows, shows_same part all (same_removals_sym all part (same_removals_of_part all part h)) (λ x p d i. (p, h.within (Insert x p d) i)) op c shown, more)

-- what is accepted after all operations is accepted after the part
pub accepts_part : {size : Size} (all part : List Op) → HasInserts all part → (seen : List Element) → Shows seen all → (op : Op) → Accepts size all op → Accepts size part op
accepts_part {size} all part h seen s op a = record {
  fresh = λ stale. a.fresh (stale_all all part h op stale);
  known = λ x n. present_part all part h x (a.known x n);
  removal = λ r n. removal_part all part h r (a.removal r n);
  room = λ f. a.room (full_all size all part h seen s op f);
}

unknown_all : (all part : List Op) → HasInserts all part → (op : Op) → IsUnknown part op → IsUnknown all op
unknown_all all part h op (inl (x, n, gone)) = inl (x, n, λ p. gone (present_part all part h x p))
unknown_all all part h op (inr (r, n, gone)) = inr (r, n, λ p. gone (removal_part all part h r p))

unknown_part : (all part : List Op) → HasInserts all part → (op : Op) → IsUnknown all op → IsUnknown part op
unknown_part all part h op (inl (x, n, gone)) = inl (x, n, λ p. gone (present_all all part h x p))
unknown_part all part h op (inr (r, n, gone)) = inr (r, n, λ p. gone (removal_all all part h r p))

-- what a check says after the part it says after all, where no operation used the id
pub checked_all : {T : Type 0} (size : Size) (all part : List Op) → HasInserts all part → (seen : List Element) → Shows seen all → (op : Op) (r : Result T SequenceError) → (Used all (id_of op) → ⊥) → Checked size part op r → Checked size all op r
checked_all size all part h seen s op (Ok x) unused a = record {
  fresh = λ stale. a.fresh (stale_part all part op unused stale);
  known = λ x n. present_all all part h x (a.known x n);
  removal = λ r n. removal_all all part h r (a.removal r n);
  room = λ f. a.room (full_part size all part h op f);
}
checked_all size all part h seen s op (Err StaleCounter) unused c = stale_all all part h op c
checked_all size all part h seen s op (Err UnknownRef) unused c =
    (λ stale. c.0 (stale_part all part op unused stale), unknown_all all part h op c.1)
checked_all size all part h seen s op (Err DocumentFull) unused c =
    (λ stale. c.0 (stale_part all part op unused stale), λ u. c.1 (unknown_part all part h op u), full_all size all part h seen s op c.2)

-- ---- marks change no element
add_mark_no_insert : (id : OpId) (attribute : Attribute) (start end : Anchor) (x : OpId) (p : Option OpId) (c : ℕ) → AddMark id attribute start end ≡ Insert x p c → ⊥
add_mark_no_insert id attribute start end x p c e = cc

add_mark_no_removal : (id : OpId) (attribute : Attribute) (start end : Anchor) (r x : OpId) → AddMark id attribute start end ≡ Remove r x → ⊥
add_mark_no_removal id attribute start end r x e = cc

add_mark_no_revival : (id : OpId) (attribute : Attribute) (start end : Anchor) (v r : OpId) → AddMark id attribute start end ≡ Revive v r → ⊥
add_mark_no_revival id attribute start end v r e = cc

pub shows_add_mark : {size : Size} (ops : List Op) (es : List Element) (op : Op) (id : OpId) (attribute : Attribute) (start end : Anchor) → op ≡ AddMark id attribute start end → Accepts size ops op → Shows es ops → Shows es (ops ++ op ∷ [])
shows_add_mark ops es op id attribute start end is a h =
    shows_other ops es op a (λ x p c e. add_mark_no_insert id attribute start end x p c (sym is ∙ e)) (λ r x e. add_mark_no_removal id attribute start end r x (sym is ∙ e)) (λ v r e. add_mark_no_revival id attribute start end v r (sym is ∙ e)) h

remove_mark_no_insert : (id : OpId) (key : Key) (start end : Anchor) (x : OpId) (p : Option OpId) (c : ℕ) → RemoveMark id key start end ≡ Insert x p c → ⊥
remove_mark_no_insert id key start end x p c e = cc

remove_mark_no_removal : (id : OpId) (key : Key) (start end : Anchor) (r x : OpId) → RemoveMark id key start end ≡ Remove r x → ⊥
remove_mark_no_removal id key start end r x e = cc

remove_mark_no_revival : (id : OpId) (key : Key) (start end : Anchor) (v r : OpId) → RemoveMark id key start end ≡ Revive v r → ⊥
remove_mark_no_revival id key start end v r e = cc

pub shows_remove_mark : {size : Size} (ops : List Op) (es : List Element) (op : Op) (id : OpId) (key : Key) (start end : Anchor) → op ≡ RemoveMark id key start end → Accepts size ops op → Shows es ops → Shows es (ops ++ op ∷ [])
shows_remove_mark ops es op id key start end is a h =
    shows_other ops es op a (λ x p c e. remove_mark_no_insert id key start end x p c (sym is ∙ e)) (λ r x e. remove_mark_no_removal id key start end r x (sym is ∙ e)) (λ v r e. remove_mark_no_revival id key start end v r (sym is ∙ e)) h
