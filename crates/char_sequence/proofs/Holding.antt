-- What is held stays held as an accepted operation is added.
use Rattle.std.proofs.Common.{◌≡◌, ◌≢◌, ℕ, suc, ◌+◌, ◌<◌, ◌≤◌, Bool, true, false, cond, List, [], ◌∷◌, ◌++◌, Option, Some, None, inl, inr, ◌⊎◌, length, set, get_or, sym, ap, refl, ◌∙◌, subst, arith, ⊎_elim}
use Rattle.std.specs.List.{slice_get, insert, Contains, count_by}
use Rattle.std.proofs.lemmas.Option.{same_Some, slice_get_within, slice_get-get_or}
use Rattle.std.proofs.lemmas.Bool.{cases_lt, cases_eq, false≢true}
use Rattle.std.proofs.lemmas.Grind.{common_steps}
use Rattle.std.proofs.lemmas.List.Elements.{Contains-append_left, Contains-push, Contains-push_cases}
use Rattle.change_ops.specs.declared.id.OpId.{OpId}
use Rattle.change_ops.specs.declared.operation.Op.{Op}
use Rattle.change_ops.specs.declared.operation.Op.TheVariants.{Insert, Remove, Revive}
use Rattle.change_ops.specs.declared.size.Size.{Size}
use Rattle.char_sequence.specs.declared.sequence.Element.{Element}
use Rattle.change_ops.specs.Ids.{Less}
use Rattle.change_ops.specs.Operations.{id_of, Names, NamesRemoval}
use Rattle.char_sequence.specs.Tree.{Inserts, Present, IsTakenBack, IsRemoval, IsHidden, HidesAlone, Within, itself, below, IsTree}
use Rattle.char_sequence.specs.Order.{Before, Ordered, IsText, Shows}
use Rattle.char_sequence.specs.Acceptance.{Accepts}
use Rattle.char_sequence.specs.Places.{IsStart, IsPast}
use Rattle.char_sequence.proofs.TreeLaws.{Grows, before_kept, before_irrefl, within_kept}
use Rattle.char_sequence.proofs.Lists.{inserted_cases, inserted_here, inserted_still, slice_get_set_same, slice_get_set_other, set_cases}
use Rattle.char_sequence.proofs.Ids.{less_cases, less_irrefl, less_by_counter}
use Rattle.char_sequence.proofs.Inserting.{Listed, fronts, backs, ordered_insert}

-- ---- the set with one more
pub grows_push : (ops : List Op) (op : Op) → Grows ops (ops ++ op ∷ [])
grows_push ops op x p i = (i.0, Contains-append_left ops (op ∷ []) (Insert x p i.0) i.1)

pub present_push : (ops : List Op) (op : Op) (x : OpId) → Present ops x → Present (ops ++ op ∷ []) x
present_push ops op x h = (h.0, grows_push ops op x h.0 h.1)

pub removal_push : (ops : List Op) (op : Op) (r : OpId) → IsRemoval ops r → IsRemoval (ops ++ op ∷ []) r
removal_push ops op r h = (h.0, Contains-append_left ops (op ∷ []) (Remove r h.0) h.1)

pub back_push : (ops : List Op) (op : Op) (r : OpId) → IsTakenBack ops r → IsTakenBack (ops ++ op ∷ []) r
back_push ops op r h = (h.0, Contains-append_left ops (op ∷ []) (Revive h.0 r) h.1)

-- a removal that is taken back then was taken back before, or is by the new operation
pub back_cases : (ops : List Op) (op : Op) (r : OpId) → IsTakenBack (ops ++ op ∷ []) r → IsTakenBack ops r ⊎ ((v : OpId) × (op ≡ Revive v r))
back_cases ops op r h =
    ⊎_elim
    (λ (u : Contains ops (Revive h.0 r)). inl (h.0, u))
    (λ (u : op ≡ Revive h.0 r). inr (h.0, u))
    (Contains-push_cases ops op (Revive h.0 r) h.1)

-- a removal that the new operation doesn't take back hides its character still
hidden_kept : (ops : List Op) (op : Op) (x r : OpId) → Contains ops (Remove r x) → (IsTakenBack ops r → ⊥) → ((v : OpId) → op ≡ Revive v r → ⊥) → IsHidden (ops ++ op ∷ []) x
hidden_kept ops op x r removes stands other = (
  r,
  Contains-append_left ops (op ∷ []) (Remove r x) removes,
  λ b. ⊎_elim stands (λ (u : (v : OpId) × (op ≡ Revive v r)). other u.0 u.1) (back_cases ops op r b),
)

pub hidden_push : (ops : List Op) (op : Op) (x : OpId) → ((v r : OpId) → op ≡ Revive v r → ⊥) → IsHidden ops x → IsHidden (ops ++ op ∷ []) x
hidden_push ops op x other h = hidden_kept ops op x h.0 h.1 h.2 (λ v. other v h.0)

-- a character that is hidden then was hidden before, or the new operation removes it
pub hidden_cases : (ops : List Op) (op : Op) (x : OpId) → IsHidden (ops ++ op ∷ []) x → IsHidden ops x ⊎ ((r : OpId) × (op ≡ Remove r x))
hidden_cases ops op x h =
    ⊎_elim
    (λ (u : Contains ops (Remove h.0 x)). inl (h.0, u, λ b. h.2 (back_push ops op h.0 b)))
    (λ (u : op ≡ Remove h.0 x). inr (h.0, u))
    (Contains-push_cases ops op (Remove h.0 x) h.1)

-- an insert of the new set is an old one or the new operation
pub inserts_cases : (ops : List Op) (op : Op) (x : OpId) (p : Option OpId) → Inserts (ops ++ op ∷ []) x p → Inserts ops x p ⊎ ((c : ℕ) × (op ≡ Insert x p c))
inserts_cases ops op x p i =
    ⊎_elim
    (λ (h : Contains ops (Insert x p i.0)). inl (i.0, h))
    (λ (h : op ≡ Insert x p i.0). inr (i.0, h))
    (Contains-push_cases ops op (Insert x p i.0) i.1)

pub not_present : {size : Size} (ops : List Op) (op : Op) → Accepts size ops op → Present ops (id_of op) → ⊥
not_present ops op a h = a.fresh (inl (Insert (id_of op) h.0 h.1.0, h.1.1, refl, omega arith))

pub above_named : {size : Size} (ops : List Op) (op : Op) → Accepts size ops op → (x : OpId) → Names op x → Less x (id_of op)
above_named ops op a x n =
    ⊎_elim
    (λ (h : x.counter < (id_of op).counter). less_by_counter x (id_of op) h)
    (λ (h : (id_of op).counter ≤ x.counter). absurd (a.fresh (inr (x, inl n, h))))
    (cases_lt x.counter (id_of op).counter)

-- the new insert is of its operation's id
new_id : (op : Op) (x : OpId) (p : Option OpId) (c : ℕ) → op ≡ Insert x p c → id_of op ≡ x
new_id op x p c e = ap id_of e

rooted_new : {size : Size} (ops : List Op) → IsTree ops → (op : Op) → Accepts size ops op → (p : Option OpId) → ((m : OpId) → p ≡ Some m → Present ops m) → Within (ops ++ op ∷ []) None p
rooted_new ops t op a None known = itself
rooted_new ops t op a (Some m) known =
    let h = known m refl in
    within_kept ops (ops ++ op ∷ []) (grows_push ops op) None (Some m) (below (t.rooted m h.0 h.1) h.1)

pub tree_push : {size : Size} (ops : List Op) → IsTree ops → (op : Op) → Accepts size ops op → IsTree (ops ++ op ∷ [])
tree_push ops t op a = record {
  one =
      λ x p q i j.
      ⊎_elim
      (λ (h : Inserts ops x p).
      ⊎_elim
      (λ (k : Inserts ops x q). t.one x p q h k)
      (λ (k : (c : ℕ) × (op ≡ Insert x q c)). absurd (not_present ops op a (subst (λ z. Present ops z) (sym (new_id op x q k.0 k.1)) (p, h))))
      (inserts_cases ops op x q j))
      (λ (h : (c : ℕ) × (op ≡ Insert x p c)).
      ⊎_elim
      (λ (k : Inserts ops x q). absurd (not_present ops op a (subst (λ z. Present ops z) (sym (new_id op x p h.0 h.1)) (q, k))))
      (λ (k : (c : ℕ) × (op ≡ Insert x q c)).
      let both : Insert x p h.0 ≡ Insert x q k.0 = sym h.1 ∙ k.1 in
      cc)
      (inserts_cases ops op x q j))
      (inserts_cases ops op x p i);
  grows =
      λ x p i.
      ⊎_elim
      (λ (h : Inserts ops x (Some p)). t.grows x p h)
      (λ (h : (c : ℕ) × (op ≡ Insert x (Some p) c)).
      subst (λ z. Less p z) (new_id op x (Some p) h.0 h.1) (above_named ops op a p (subst (λ o. Names o p) (sym h.1) refl)))
      (inserts_cases ops op x (Some p) i);
  rooted =
      λ x p i.
      ⊎_elim
      (λ (h : Inserts ops x p). within_kept ops (ops ++ op ∷ []) (grows_push ops op) None p (t.rooted x p h))
      (λ (h : (c : ℕ) × (op ≡ Insert x p c)).
      rooted_new ops t op a p (λ m e. a.known m (subst (λ o. Names o m) (sym h.1) e)))
      (inserts_cases ops op x p i);
}

pub named_push : {size : Size} (ops : List Op) (op : Op) → Accepts size ops op → ((o : Op) (x : OpId) → Contains ops o → Names o x → Present ops x) → (o : Op) (x : OpId) → Contains (ops ++ op ∷ []) o → Names o x → Present (ops ++ op ∷ []) x
named_push ops op a named o x h n =
    ⊎_elim
    (λ (k : Contains ops o). present_push ops op x (named o x k n))
    (λ (k : op ≡ o). present_push ops op x (a.known x (subst (λ z. Names z x) (sym k) n)))
    (Contains-push_cases ops op o h)

pub removals_push : {size : Size} (ops : List Op) (op : Op) → Accepts size ops op → ((o : Op) (r : OpId) → Contains ops o → NamesRemoval o r → IsRemoval ops r) → (o : Op) (r : OpId) → Contains (ops ++ op ∷ []) o → NamesRemoval o r → IsRemoval (ops ++ op ∷ []) r
removals_push ops op a removals o r h n =
    ⊎_elim
    (λ (k : Contains ops o). removal_push ops op r (removals o r k n))
    (λ (k : op ≡ o). removal_push ops op r (a.removal r (subst (λ z. NamesRemoval z r) (sym k) n)))
    (Contains-push_cases ops op o h)

fresh_id : {size : Size} (ops : List Op) (op : Op) → Accepts size ops op → (o : Op) → Contains ops o → id_of o ≡ id_of op → ⊥
fresh_id ops op a o h e =
    let c : (id_of o).counter ≡ (id_of op).counter = ap (λ z. z.counter) e in
    a.fresh (inl (o, h, ap (λ z. z.node) e, omega arith))

pub distinct_push : {size : Size} (ops : List Op) (op : Op) → Accepts size ops op → ((o p : Op) → Contains ops o → Contains ops p → id_of o ≡ id_of p → o ≡ p) → (o p : Op) → Contains (ops ++ op ∷ []) o → Contains (ops ++ op ∷ []) p → id_of o ≡ id_of p → o ≡ p
distinct_push ops op a distinct o p h k e =
    ⊎_elim
    (λ (x : Contains ops o).
    ⊎_elim
    (λ (y : Contains ops p). distinct o p x y e)
    (λ (y : op ≡ p). absurd (fresh_id ops op a o x (e ∙ sym (ap id_of y))))
    (Contains-push_cases ops op p k))
    (λ (x : op ≡ o).
    ⊎_elim
    (λ (y : Contains ops p). absurd (fresh_id ops op a p y (sym e ∙ sym (ap id_of x))))
    (λ (y : op ≡ p). sym x ∙ y)
    (Contains-push_cases ops op p k))
    (Contains-push_cases ops op o h)

-- no removal with the id of an accepted operation is taken back
pub not_back : {size : Size} (ops : List Op) (op : Op) → Accepts size ops op → ((o : Op) (r : OpId) → Contains ops o → NamesRemoval o r → IsRemoval ops r) → IsTakenBack ops (id_of op) → ⊥
not_back ops op a removals b =
    let r = removals (Revive b.0 (id_of op)) (id_of op) b.1 refl in
    fresh_id ops op a (Remove (id_of op) r.0) r.1 refl

-- ---- an insert
pub listed_ids : (ops : List Op) (es : List Element) → IsText ops es → Listed ops es
listed_ids ops es text x p i =
    let r = text.listed x p i.0 i.1 in
    (r.0, (r.1.0, r.1.1, r.1.2))

pub present_at : (ops : List Op) (es : List Element) → IsText ops es → (i : ℕ) (y : Element) → slice_get es i ≡ Some y → Present ops y.id
present_at ops es text i y g =
    let r = text.inserted i y g in
    (r.0, (y.character, r.1))

pub insert_not_remove : (x : OpId) (p : Option OpId) (c : ℕ) (r t : OpId) → Insert x p c ≡ Remove r t → ⊥
insert_not_remove x p c r t e = cc

pub insert_not_revive : (x : OpId) (p : Option OpId) (c : ℕ) (v r : OpId) → Insert x p c ≡ Revive v r → ⊥
insert_not_revive x p c v r e = cc

pub text_insert : {size : Size} (ops : List Op) (es : List Element) (id : OpId) (p : Option OpId) (c : ℕ) → IsTree ops → ((o : Op) (x : OpId) → Contains ops o → Names o x → Present ops x) → IsText ops es → Accepts size ops (Insert id p c) → (start k : ℕ) → IsStart ops es p start → IsPast es id start k → k ≤ length es → (e : Element) → e.id ≡ id → e.character ≡ c → e.visible ≡ true → IsText (ops ++ Insert id p c ∷ []) (insert es k e)
text_insert ops es id p c t named text a start k st past h e is_id is_character is_visible =
    let op = Insert id p c in
    let new = ops ++ op ∷ [] in
    let more : Grows ops new = grows_push ops op in
    let s : IsTree new = tree_push ops t op a in
    let ins : Inserts new id p = (c, Contains-push ops op) in
    let ins' : Inserts new e.id p = subst (λ z. Inserts new z p) (sym is_id) ins in
    let past' : IsPast es e.id start k = subst (λ z. IsPast es z start k) (sym is_id) past in
    record {
      ordered =
          ordered_insert ops new more es text.ordered k e h
          (λ i x l g. fronts ops new t s more es text.ordered (listed_ids ops es text) (present_at ops es text) e.id p ins' start k st past' i x l g)
          (λ i y l g.
          let within : i < length es = slice_get_within es i y g in
          let there : k < length es = omega arith in
          let z : Element = get_or es k e in
          let at : slice_get es k ≡ Some z = slice_get-get_or es k e there in
          let less : Less z.id e.id =
          ⊎_elim
          (λ (u : Less z.id e.id). u)
          (λ (u : (z.id ≡ e.id) ⊎ Less e.id z.id).
          ⊎_elim
          (λ (v : z.id ≡ e.id). absurd (not_present ops op a (subst (λ w. Present ops w) (v ∙ is_id) (present_at ops es text k z at))))
          (λ (v : Less e.id z.id). absurd (past'.stops z at v))
          u)
          (less_cases z.id e.id)
          in
          backs ops new t s more es text.ordered e.id p ins' start k st past' z at less i y l g);
      listed =
          λ x q d i.
          ⊎_elim
          (λ (u : Contains ops (Insert x q d)).
          let r = text.listed x q d u in
          let at = inserted_still es k e r.0 r.1.0 h r.1.1 in
          (at.0, (r.1.0, at.1, r.1.2, r.1.3)))
          (λ (u : Insert id p c ≡ Insert x q d).
          let same : id ≡ x = cc in
          let char : c ≡ d = cc in
          (k, (e, inserted_here es k e h, is_id ∙ same, is_character ∙ char)))
          (Contains-push_cases ops op (Insert x q d) i);
      inserted =
          λ i x g.
          ⊎_elim
          (λ (u : (i < k) × (slice_get es i ≡ Some x)).
          let r = text.inserted i x u.1 in
          (r.0, Contains-append_left ops (op ∷ []) (Insert x.id r.0 x.character) r.1))
          (λ (u : ((i ≡ k) × (e ≡ x)) ⊎ ((j : ℕ) × (i ≡ suc j) × (k ≤ j) × (slice_get es j ≡ Some x))).
          ⊎_elim
          (λ (v : (i ≡ k) × (e ≡ x)).
          let there : Contains new (Insert e.id p e.character) = subst (λ z. Contains new (Insert z p e.character)) (sym is_id) (subst (λ z. Contains new (Insert id p z)) (sym is_character) (Contains-push ops op)) in
          (p, subst (λ z. Contains new (Insert z.id p z.character)) v.1 there))
          (λ (v : (j : ℕ) × (i ≡ suc j) × (k ≤ j) × (slice_get es j ≡ Some x)).
          let r = text.inserted v.0 x v.3 in
          (r.0, Contains-append_left ops (op ∷ []) (Insert x.id r.0 x.character) r.1))
          u)
          (inserted_cases es k e i x h g);
      shown =
          λ i x g shows r.
          ⊎_elim
          (λ (gone : IsHidden ops x.id).
          ⊎_elim
          (λ (u : (i < k) × (slice_get es i ≡ Some x)). text.shown i x u.1 shows gone)
          (λ (u : ((i ≡ k) × (e ≡ x)) ⊎ ((j : ℕ) × (i ≡ suc j) × (k ≤ j) × (slice_get es j ≡ Some x))).
          ⊎_elim
          (λ (v : (i ≡ k) × (e ≡ x)).
          let there : Present ops x.id = named (Remove gone.0 x.id) x.id gone.1 refl in
          not_present ops op a (subst (λ z. Present ops z) (sym (ap (λ w. w.id) v.1) ∙ is_id) there))
          (λ (v : (j : ℕ) × (i ≡ suc j) × (k ≤ j) × (slice_get es j ≡ Some x)). text.shown v.0 x v.3 shows gone)
          u)
          (inserted_cases es k e i x h g))
          (λ (gone : (r : OpId) × (op ≡ Remove r x.id)). insert_not_remove id p c gone.0 x.id gone.1)
          (hidden_cases ops op x.id r);
      hidden =
          λ i x g hides.
          ⊎_elim
          (λ (u : (i < k) × (slice_get es i ≡ Some x)). hidden_push ops op x.id (insert_not_revive id p c) (text.hidden i x u.1 hides))
          (λ (u : ((i ≡ k) × (e ≡ x)) ⊎ ((j : ℕ) × (i ≡ suc j) × (k ≤ j) × (slice_get es j ≡ Some x))).
          ⊎_elim
          (λ (v : (i ≡ k) × (e ≡ x)). absurd (false≢true (sym hides ∙ sym (ap (λ w. w.visible) v.1) ∙ is_visible)))
          (λ (v : (j : ℕ) × (i ≡ suc j) × (k ≤ j) × (slice_get es j ≡ Some x)). hidden_push ops op x.id (insert_not_revive id p c) (text.hidden v.0 x v.3 hides))
          u)
          (inserted_cases es k e i x h g);
    }

-- ---- a removal
-- what stood at the place of an element of the list with one element marked
marked_from : (es : List Element) (k : ℕ) (e o : Element) → k < length es → slice_get es k ≡ Some o → e.id ≡ o.id → e.character ≡ o.character → (i : ℕ) (x : Element) → slice_get (set es k e) i ≡ Some x → (w : Element) × (slice_get es i ≡ Some w) × (w.id ≡ x.id) × (w.character ≡ x.character)
marked_from es k e o h at is_id is_character i x g =
    ⊎_elim
    (λ (u : (i ≡ k) × (e ≡ x)). (o, ap (slice_get es) u.0 ∙ at, sym is_id ∙ ap (λ w. w.id) u.1, sym is_character ∙ ap (λ w. w.character) u.1))
    (λ (u : (i ≢ k) × (slice_get es i ≡ Some x)). (x, u.1, refl, refl))
    (set_cases es k e i x h g)

-- no id stands at two places
one_place : (ops : List Op) (es : List Element) → IsTree ops → Ordered ops es → (i k : ℕ) (x o : Element) → slice_get es i ≡ Some x → slice_get es k ≡ Some o → x.id ≡ o.id → i ≢ k → ⊥
one_place ops es t ordered i k x o gx go one other =
    ⊎_elim
    (λ (l : i < k). before_irrefl ops t o.id (subst (λ z. Before ops (Some z) o.id) one (ordered i k x o l gx go)))
    (λ (l : k ≤ i).
    let lt : k < i =
    ⊎_elim
    (λ (m : k < i). m)
    (λ (m : i ≤ k). let eq : i ≡ k = omega arith in absurd (other eq))
    (cases_lt k i)
    in
    before_irrefl ops t o.id (subst (λ z. Before ops (Some o.id) z) one (ordered k i o x lt go gx)))
    (cases_lt i k)

-- the text with one element marked, behind an operation that is no insert
text_marked : (ops : List Op) (es : List Element) (op : Op) → ((x : OpId) (p : Option OpId) (c : ℕ) → op ≡ Insert x p c → ⊥) → IsText ops es → (k : ℕ) (o e : Element) → slice_get es k ≡ Some o → e.id ≡ o.id → e.character ≡ o.character → (e.visible ≡ true → IsHidden (ops ++ op ∷ []) e.id → ⊥) → (e.visible ≡ false → IsHidden (ops ++ op ∷ []) e.id) → ((i : ℕ) (x : Element) → i ≢ k → slice_get es i ≡ Some x → x.visible ≡ true → IsHidden (ops ++ op ∷ []) x.id → ⊥) → ((i : ℕ) (x : Element) → i ≢ k → slice_get es i ≡ Some x → x.visible ≡ false → IsHidden (ops ++ op ∷ []) x.id) → IsText (ops ++ op ∷ []) (set es k e)
text_marked ops es op no_insert text k o e at is_id is_character here_shown here_hidden shown hidden =
    let new = ops ++ op ∷ [] in
    let more : Grows ops new = grows_push ops op in
    let h : k < length es = slice_get_within es k o at in
    record {
      ordered =
          λ i j x y less gx gy.
          let u = marked_from es k e o h at is_id is_character i x gx in
          let v = marked_from es k e o h at is_id is_character j y gy in
          before_kept ops new more (Some x.id) y.id (subst (λ z. Before ops (Some z) y.id) u.2 (subst (λ z. Before ops (Some u.0.id) z) v.2 (text.ordered i j u.0 v.0 less u.1 v.1)));
      listed =
          λ x p c i.
          ⊎_elim
          (λ (u : Contains ops (Insert x p c)).
          let r = text.listed x p c u in
          ⊎_elim
          (λ (same : r.0 ≡ k).
          let one : r.1.0 ≡ o = same_Some r.1.0 o (sym r.1.1 ∙ ap (slice_get es) same ∙ at) in
          (k, (e, slice_get_set_same es k e h, is_id ∙ sym (ap (λ w. w.id) one) ∙ r.1.2, is_character ∙ sym (ap (λ w. w.character) one) ∙ r.1.3)))
          (λ (other : r.0 ≡ k → ⊥). (r.0, (r.1.0, slice_get_set_other es k r.0 e other ∙ r.1.1, r.1.2, r.1.3)))
          (cases_eq r.0 k))
          (λ (u : op ≡ Insert x p c). absurd (no_insert x p c u))
          (Contains-push_cases ops op (Insert x p c) i);
      inserted =
          λ i x g.
          let u = marked_from es k e o h at is_id is_character i x g in
          let r = text.inserted i u.0 u.1 in
          (r.0, Contains-append_left ops (op ∷ []) (Insert x.id r.0 x.character) (subst (λ z. Contains ops (Insert z r.0 x.character)) u.2 (subst (λ z. Contains ops (Insert u.0.id r.0 z)) u.3 r.1)));
      shown =
          λ i x g shows r.
          ⊎_elim
          (λ (u : (i ≡ k) × (e ≡ x)).
          here_shown (ap (λ w. w.visible) u.1 ∙ shows) (subst (λ z. IsHidden new z) (sym (ap (λ w. w.id) u.1)) r))
          (λ (u : (i ≢ k) × (slice_get es i ≡ Some x)). shown i x u.0 u.1 shows r)
          (set_cases es k e i x h g);
      hidden =
          λ i x g hides.
          ⊎_elim
          (λ (u : (i ≡ k) × (e ≡ x)).
          subst (λ z. IsHidden new z) (ap (λ w. w.id) u.1) (here_hidden (ap (λ w. w.visible) u.1 ∙ hides)))
          (λ (u : (i ≢ k) × (slice_get es i ≡ Some x)). hidden i x u.0 u.1 hides)
          (set_cases es k e i x h g);
    }

pub remove_not_insert : (r t x : OpId) (p : Option OpId) (c : ℕ) → Remove r t ≡ Insert x p c → ⊥
remove_not_insert r t x p c e = cc

remove_not_revive : (r t v x : OpId) → Remove r t ≡ Revive v x → ⊥
remove_not_revive r t v x e = cc

removed_target : (r t s x : OpId) → Remove r t ≡ Remove s x → t ≡ x
removed_target r t s x e = cc

pub text_remove : (ops : List Op) (es : List Element) (id target : OpId) → IsTree ops → IsText ops es → (IsTakenBack ops id → ⊥) → (k : ℕ) (o e : Element) → slice_get es k ≡ Some o → o.id ≡ target → e.id ≡ o.id → e.character ≡ o.character → e.visible ≡ false → IsText (ops ++ Remove id target ∷ []) (set es k e)
text_remove ops es id target t text not_back k o e at is_target is_id is_character is_hidden =
    let op = Remove id target in
    let new = ops ++ op ∷ [] in
    let same : target ≡ e.id = sym is_target ∙ sym is_id in
    let here : IsHidden new e.id = (
      id,
      subst (λ z. Contains new (Remove id z)) same (Contains-push ops op),
      λ b. ⊎_elim not_back (λ (u : (v : OpId) × (op ≡ Revive v id)). remove_not_revive id target u.0 id u.1) (back_cases ops op id b),
    ) in
    text_marked ops es op (remove_not_insert id target) text k o e at is_id is_character
    (λ shows r. false≢true (sym is_hidden ∙ shows))
    (λ hides. here)
    (λ i x other g shows r.
    ⊎_elim
    (λ (gone : IsHidden ops x.id). text.shown i x g shows gone)
    (λ (gone : (s : OpId) × (op ≡ Remove s x.id)).
    one_place ops es t text.ordered i k x o g at (sym (removed_target id target gone.0 x.id gone.1) ∙ sym is_target) other)
    (hidden_cases ops op x.id r))
    (λ i x other g hides. hidden_push ops op x.id (remove_not_revive id target) (text.hidden i x g hides))

-- ---- a revival
pub revive_not_insert : (v r x : OpId) (p : Option OpId) (c : ℕ) → Revive v r ≡ Insert x p c → ⊥
revive_not_insert v r x p c e = cc

revive_not_remove : (v r s x : OpId) → Revive v r ≡ Remove s x → ⊥
revive_not_remove v r s x e = cc

revived : (v r w s : OpId) → Revive v r ≡ Revive w s → r ≡ s
revived v r w s e = cc

-- a character that is hidden behind a revival was hidden before
was_hidden : (ops : List Op) (id removal x : OpId) → IsHidden (ops ++ Revive id removal ∷ []) x → IsHidden ops x
was_hidden ops id removal x h =
    ⊎_elim
    (λ (u : IsHidden ops x). u)
    (λ (u : (r : OpId) × (Revive id removal ≡ Remove r x)). absurd (revive_not_remove id removal u.0 x u.1))
    (hidden_cases ops (Revive id removal) x h)

-- the only removal that hid it is taken back
not_hidden : (ops : List Op) (id removal x : OpId) → HidesAlone ops removal x → IsHidden (ops ++ Revive id removal ∷ []) x → ⊥
not_hidden ops id removal x alone h =
    let op = Revive id removal in
    ⊎_elim
    (λ (u : Contains ops (Remove h.0 x)).
    let same : h.0 ≡ removal = alone.only h.0 u (λ b. h.2 (back_push ops op h.0 b)) in
    h.2 (subst (λ z. IsTakenBack (ops ++ op ∷ []) z) (sym same) (id, Contains-push ops op)))
    (λ (u : op ≡ Remove h.0 x). revive_not_remove id removal h.0 x u)
    (Contains-push_cases ops op (Remove h.0 x) h.1)

-- another removal hides it still
still_hidden : (ops : List Op) (id removal x r : OpId) → Contains ops (Remove r x) → (IsTakenBack ops r → ⊥) → (r ≡ removal → ⊥) → IsHidden (ops ++ Revive id removal ∷ []) x
still_hidden ops id removal x r removes stands other =
    hidden_kept ops (Revive id removal) x r removes stands (λ v e. other (sym (revived id removal v r e)))

pub same_or_not : (a b : OpId) → (a ≡ b) ⊎ (a ≡ b → ⊥)
same_or_not a b =
    ⊎_elim
    (λ (less : Less a b). inr (λ e. less_irrefl b (subst (λ z. Less z b) e less)))
    (λ (other : (a ≡ b) ⊎ Less b a).
    ⊎_elim
    (λ (same : a ≡ b). inl same)
    (λ (more : Less b a). inr (λ e. less_irrefl a (subst (λ z. Less z a) (sym e) more)))
    other)
    (less_cases a b)

-- the character is shown
pub text_shown : (ops : List Op) (es : List Element) (id removal target : OpId) → IsTree ops → ((o p : Op) → Contains ops o → Contains ops p → id_of o ≡ id_of p → o ≡ p) → IsText ops es → HidesAlone ops removal target → (k : ℕ) (o e : Element) → slice_get es k ≡ Some o → o.id ≡ target → e.id ≡ o.id → e.character ≡ o.character → e.visible ≡ true → IsText (ops ++ Revive id removal ∷ []) (set es k e)
text_shown ops es id removal target t distinct text alone k o e at is_target is_id is_character is_visible =
    let op = Revive id removal in
    text_marked ops es op (revive_not_insert id removal) text k o e at is_id is_character
    (λ shows r. not_hidden ops id removal target alone (subst (λ z. IsHidden (ops ++ op ∷ []) z) (is_id ∙ is_target) r))
    (λ hides. absurd (false≢true (sym hides ∙ is_visible)))
    (λ i x other g shows r. text.shown i x g shows (was_hidden ops id removal x.id r))
    (λ i x other g hides.
    let h = text.hidden i x g hides in
    still_hidden ops id removal x.id h.0 h.1 h.2
    (λ same.
    let both : Remove removal target ≡ Remove removal x.id = distinct (Remove removal target) (Remove removal x.id) alone.removes (subst (λ z. Contains ops (Remove z x.id)) same h.1) refl in
    one_place ops es t text.ordered i k x o g at (sym (removed_target removal target removal x.id both) ∙ sym is_target) other))

-- another removal of the character isn't taken back
abbrev pub HidesToo : List Op → OpId → OpId → Type 0
HidesToo ops removal x = (s : OpId) × Contains ops (Remove s x) × (IsTakenBack ops s → ⊥) × (s ≡ removal → ⊥)

-- no character is shown
pub text_kept : (ops : List Op) (es : List Element) (id removal : OpId) → IsText ops es → ((x : OpId) → Contains ops (Remove removal x) → (IsTakenBack ops removal → ⊥) → HidesToo ops removal x) → IsText (ops ++ Revive id removal ∷ []) es
text_kept ops es id removal text others = record {
  ordered = λ i j x y less g h. before_kept ops (ops ++ Revive id removal ∷ []) (grows_push ops (Revive id removal)) (Some x.id) y.id (text.ordered i j x y less g h);
  listed =
      λ x p c i.
      ⊎_elim
      (λ (u : Contains ops (Insert x p c)). text.listed x p c u)
      (λ (u : Revive id removal ≡ Insert x p c). absurd (revive_not_insert id removal x p c u))
      (Contains-push_cases ops (Revive id removal) (Insert x p c) i);
  inserted =
      λ i e g.
      let r = text.inserted i e g in
      (r.0, Contains-append_left ops (Revive id removal ∷ []) (Insert e.id r.0 e.character) r.1);
  shown = λ i e g shows r. text.shown i e g shows (was_hidden ops id removal e.id r);
  hidden =
      λ i e g hides.
      let h = text.hidden i e g hides in
      ⊎_elim
      (λ (same : h.0 ≡ removal).
      let more = others e.id (subst (λ z. Contains ops (Remove z e.id)) same h.1) (subst (λ z. IsTakenBack ops z → ⊥) same h.2) in
      still_hidden ops id removal e.id more.0 more.1 more.2 more.3)
      (λ (other : h.0 ≡ removal → ⊥). still_hidden ops id removal e.id h.0 h.1 h.2 other)
      (same_or_not h.0 removal);
}

-- ---- counts
pub count_push : {X : Type 0} (p : X → Bool) (xs : List X) (y : X) → count_by p (xs ++ y ∷ []) ≡ count_by p xs + cond (p y) 1 0
count_push p [] y = grind (arith, common_steps)
count_push p (x ∷ xs) y = grind (arith, common_steps, count_push p xs y)

-- ---- a mark, or another operation that is no insert, no removal and no revival
pub text_other : (ops : List Op) (es : List Element) (op : Op) → ((x : OpId) (p : Option OpId) (c : ℕ) → op ≡ Insert x p c → ⊥) → ((r x : OpId) → op ≡ Remove r x → ⊥) → ((v r : OpId) → op ≡ Revive v r → ⊥) → IsText ops es → IsText (ops ++ op ∷ []) es
text_other ops es op no_insert no_removal no_revival text = record {
  ordered = λ i j x y less g h. before_kept ops (ops ++ op ∷ []) (grows_push ops op) (Some x.id) y.id (text.ordered i j x y less g h);
  listed =
      λ x p c i.
      ⊎_elim
      (λ (u : Contains ops (Insert x p c)). text.listed x p c u)
      (λ (u : op ≡ Insert x p c). absurd (no_insert x p c u))
      (Contains-push_cases ops op (Insert x p c) i);
  inserted =
      λ i e g.
      let r = text.inserted i e g in
      (r.0, Contains-append_left ops (op ∷ []) (Insert e.id r.0 e.character) r.1);
  shown =
      λ i e g shows r.
      ⊎_elim
      (λ (u : IsHidden ops e.id). text.shown i e g shows u)
      (λ (u : (s : OpId) × (op ≡ Remove s e.id)). no_removal u.0 e.id u.1)
      (hidden_cases ops op e.id r);
  hidden = λ i e g hides. hidden_push ops op e.id no_revival (text.hidden i e g hides);
}

pub shows_other : {size : Size} (ops : List Op) (es : List Element) (op : Op) → Accepts size ops op → ((x : OpId) (p : Option OpId) (c : ℕ) → op ≡ Insert x p c → ⊥) → ((r x : OpId) → op ≡ Remove r x → ⊥) → ((v r : OpId) → op ≡ Revive v r → ⊥) → Shows es ops → Shows es (ops ++ op ∷ [])
shows_other ops es op a no_insert no_removal no_revival h = record {
  tree = tree_push ops h.tree op a;
  distinct = distinct_push ops op a h.distinct;
  named = named_push ops op a h.named;
  removals = removals_push ops op a h.removals;
  text = text_other ops es op no_insert no_removal no_revival h.text;
}
