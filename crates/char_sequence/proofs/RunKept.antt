-- A run that is inserted whole.
use Rattle.std.proofs.Common.{◌≡◌, ℕ, zero, suc, ◌+◌, ◌<◌, ◌≤◌, true, List, [], ◌∷◌, ◌++◌, Option, Some, inl, inr, length, take, refl, sym, ap, subst, ◌∙◌, arith, ⊎_elim, append_assoc, length-append, encode_utf8_all}
use Rattle.std.specs.List.{slice_get, Contains, count_by}
use Rattle.std.specs.Char.{encode_utf8}
use Rattle.std.proofs.lemmas.Bool.{cases_lt}
use Rattle.std.proofs.lemmas.Option.{same_Some, none-some}
use Rattle.std.proofs.lemmas.List.{append-nil}
use Rattle.std.proofs.lemmas.List.Elements.{Contains-push, Contains-push_cases}
use Rattle.change_ops.specs.Operations.{id_of, is_insert}
use Rattle.change_ops.specs.Runs.{next_id, inserts_from}
use Rattle.change_ops.specs.declared.id.OpId.{OpId}
use Rattle.change_ops.specs.declared.operation.Op.{Op}
use Rattle.change_ops.specs.declared.operation.Op.TheVariants.{Insert}
use Rattle.change_ops.specs.declared.size.Size.{Size}
use Rattle.change_ops.specs.Sizes.{most_characters, most_bytes}
use Rattle.char_sequence.specs.declared.sequence.Element.{Element}
use Rattle.char_sequence.specs.Tree.{Present}
use Rattle.char_sequence.specs.Order.{Shows}
use Rattle.char_sequence.specs.Acceptance.{Used, NamesId, HasNoRoom, Accepts, AcceptsAll}
use Rattle.char_sequence.specs.Visible.{visible_text}
use Rattle.char_sequence.specs.Places.{IsStart, IsPast}
use Rattle.char_sequence.proofs.Ids.{less_trans, less_by_counter}
use Rattle.char_sequence.proofs.Inserting.{start_after}
use Rattle.char_sequence.proofs.Holding.{tree_push, distinct_push, named_push, removals_push, text_insert, count_push}
use Rattle.char_sequence.specs.RunElements.{elements_from, AcceptsRun}
use Rattle.char_sequence.proofs.Lists.{insert_append}
use Rattle.char_sequence.proofs.Growing.{one_inserted, inserted_bytes, bytes_room}

-- ---- which runs are accepted
first_accepted : {size : Size} (ops : List Op) (id : OpId) (parent : Option OpId) (c : ℕ) (cs : List ℕ) → AcceptsRun size ops id parent (c ∷ cs) → Accepts size ops (Insert id parent c)
first_accepted {size} ops id parent c cs a = record {
  fresh = λ stale. ⊎_elim (λ (u : Used ops id). a.fresh u) (λ (u : (x : OpId) × NamesId (Insert id parent c) x × (id.counter ≤ x.counter)). ⊎_elim (λ (n : parent ≡ Some u.0). a.above u.0 n u.2) (λ (n : ⊥). n) u.1) stale;
  known = λ x n. a.known x n;
  removal = λ r n. absurd n;
  room =
      λ full.
      ⊎_elim
      (λ (many : (is_insert (Insert id parent c) ≡ true) × (most_characters size ≤ count_by is_insert ops)). let have = a.room in let most = many.1 in absurd (omega (arith, have, most)))
      (λ (none : HasNoRoom ops (Insert id parent c)).
      let space = a.space none.0 none.2 in
      let same : c ≡ none.1 = none.3 in
      let more : most_bytes < length (visible_text none.0) + length (encode_utf8 c) = subst (λ z. most_bytes < length (visible_text none.0) + length (encode_utf8 z)) (sym same) none.4 in
      let both = length-append (encode_utf8 c) (encode_utf8_all cs) in
      absurd (omega (arith, space, more, both)))
      full;
}

rest_accepted : {size : Size} (ops : List Op) (es : List Element) (id : OpId) (parent : Option OpId) (c : ℕ) (cs : List ℕ) → Shows es ops → AcceptsRun size ops id parent (c ∷ cs) → AcceptsRun size (ops ++ Insert id parent c ∷ []) (next_id id) (Some id) cs
rest_accepted {size} ops es id parent c cs h a = record {
  fresh =
      λ used.
      ⊎_elim
      (λ (old : Contains ops used.0). let le : id.counter + 1 ≤ (id_of used.0).counter = used.3 in a.fresh (used.0, old, used.2, omega arith))
      (λ (new : Insert id parent c ≡ used.0).
      let same : id.counter ≡ (id_of used.0).counter = ap (λ o. (id_of o).counter) new in
      let le : id.counter + 1 ≤ (id_of used.0).counter = used.3 in
      absurd (omega arith))
      (Contains-push_cases ops (Insert id parent c) used.0 used.1);
  above =
      λ x e le.
      let same : id.counter ≡ x.counter = ap (λ z. z.counter) (same_Some id x e) in
      let more : id.counter + 1 ≤ x.counter = le in
      absurd (omega arith);
  known = λ x e. subst (λ z. Present (ops ++ Insert id parent c ∷ []) z) (same_Some id x e) (parent, (c, Contains-push ops (Insert id parent c)));
  room =
      let have : count_by is_insert ops + length (c ∷ cs) ≤ most_characters size = a.room in
      let count : count_by is_insert (ops ++ Insert id parent c ∷ []) ≡ count_by is_insert ops + 1 = count_push is_insert ops (Insert id parent c) in
      omega arith;
  space =
      λ later shown.
      let grown = inserted_bytes ops es later id parent c h (first_accepted ops id parent c cs a) shown in
      let space = a.space es h in
      let both = length-append (encode_utf8 c) (encode_utf8_all cs) in
      omega (arith, grown, space, both);
}

-- Of a run that is accepted whole, each insert is accepted after those before it.
pub run_accepted : {size : Size} (cs : List ℕ) (ops : List Op) (es : List Element) (id : OpId) (parent : Option OpId) → Shows es ops → AcceptsRun size ops id parent cs → AcceptsAll size ops (inserts_from id parent cs)
unfolding inserts_from
run_accepted [] ops es id parent h a i op g = absurd (none-some op g)
run_accepted {size} (c ∷ cs) ops es id parent h a zero op g =
    subst (λ o. Accepts size (ops ++ []) o) (same_Some (Insert id parent c) op g) (subst (λ l. Accepts size l (Insert id parent c)) (sym (append-nil ops)) (first_accepted ops id parent c cs a))
run_accepted {size} (c ∷ cs) ops es id parent h a (suc i) op g =
    let next = one_inserted ops es id parent c h (first_accepted ops id parent c cs a) in
    subst (λ l. Accepts size l op) (append_assoc ops (Insert id parent c ∷ []) (take i (inserts_from (next_id id) (Some id) cs)))
    (run_accepted cs (ops ++ Insert id parent c ∷ []) next.0 (next_id id) (Some id) next.1 (rest_accepted ops es id parent c cs h a) i op g)

-- ---- where it stands
one_shown : {size : Size} (ops : List Op) (front back : List Element) (id : OpId) (parent : Option OpId) (c start : ℕ) → Shows (front ++ back) ops → Accepts size ops (Insert id parent c) → IsStart ops (front ++ back) parent start → IsPast (front ++ back) id start (length front) → Shows (front ++ record { id = id; character = c; visible = true } ∷ back) (ops ++ Insert id parent c ∷ [])
one_shown ops front back id parent c start h a st past =
    let e : Element = record { id = id; character = c; visible = true } in
    subst (λ l. Shows l (ops ++ Insert id parent c ∷ [])) (insert_append front back e)
    (record {
      tree = tree_push ops h.tree (Insert id parent c) a;
      distinct = distinct_push ops (Insert id parent c) a h.distinct;
      named = named_push ops (Insert id parent c) a h.named;
      removals = removals_push ops (Insert id parent c) a h.removals;
      text = text_insert ops (front ++ back) id parent c h.tree h.named h.text a start (length front) st past (omega (arith, length-append front back)) e refl refl refl;
    })

split_push : (front back : List Element) (e : Element) → front ++ e ∷ back ≡ (front ++ e ∷ []) ++ back
split_push front back e = sym (append_assoc front (e ∷ []) back)

element_at : (front back : List Element) (e : Element) → slice_get (front ++ e ∷ back) (length front) ≡ Some e
element_at [] back e = refl
element_at (x ∷ front) back e = element_at front back e

element_behind : (front back : List Element) (e x : Element) → slice_get (front ++ e ∷ back) (length front + 1) ≡ Some x → slice_get (front ++ back) (length front) ≡ Some x
element_behind [] back e x g = g
element_behind (y ∷ front) back e x g =
    let same : suc (length front + 1) ≡ length (y ∷ front) + 1 = omega arith in
    element_behind front back e x (ap (slice_get (y ∷ (front ++ e ∷ back))) same ∙ g)

-- A run stands as one piece where its first character goes.
pub run_shown : {size : Size} (cs : List ℕ) (ops : List Op) (front back : List Element) (id : OpId) (parent : Option OpId) (start : ℕ) → Shows (front ++ back) ops → AcceptsRun size ops id parent cs → IsStart ops (front ++ back) parent start → IsPast (front ++ back) id start (length front) → Shows (front ++ (elements_from id cs ++ back)) (ops ++ inserts_from id parent cs)
unfolding inserts_from
run_shown [] ops front back id parent start h a st past = subst (λ l. Shows (front ++ back) l) (sym (append-nil ops)) h
run_shown (c ∷ cs) ops front back id parent start h a st past =
    let e : Element = record { id = id; character = c; visible = true } in
    let op : Op = Insert id parent c in
    let one : Shows (front ++ e ∷ back) (ops ++ op ∷ []) = one_shown ops front back id parent c start h (first_accepted ops id parent c cs a) st past in
    let size : length (front ++ e ∷ []) ≡ length front + 1 = length-append front (e ∷ []) in
    let begins : IsStart (ops ++ op ∷ []) (front ++ e ∷ back) (Some id) (length front + 1) = start_after (ops ++ op ∷ []) (front ++ e ∷ back) one.text.ordered (length front) e id (element_at front back e) refl in
    let past' : IsPast (front ++ e ∷ back) (next_id id) (length front + 1) (length front + 1) = record {
      low = omega arith;
      skipped = λ i x low high g. absurd (omega arith);
      stops = λ x g less. past.stops x (element_behind front back e x g) (less_trans id (next_id id) x.id (less_by_counter id (next_id id) (omega arith)) less);
    } in
    let same = split_push front back e in
    let rest : Shows ((front ++ e ∷ []) ++ (elements_from (next_id id) cs ++ back)) ((ops ++ op ∷ []) ++ inserts_from (next_id id) (Some id) cs) =
    run_shown cs (ops ++ op ∷ []) (front ++ e ∷ []) back (next_id id) (Some id) (length front + 1)
    (subst (λ l. Shows l (ops ++ op ∷ [])) same one) (rest_accepted ops (front ++ back) id parent c cs h a)
    (subst (λ l. IsStart (ops ++ op ∷ []) l (Some id) (length front + 1)) same begins)
    (subst (λ n. IsPast ((front ++ e ∷ []) ++ back) (next_id id) (length front + 1) n) (sym size) (subst (λ l. IsPast l (next_id id) (length front + 1) (length front + 1)) same past')) in
    subst (λ l. Shows l (ops ++ inserts_from id parent (c ∷ cs))) (append_assoc front (e ∷ []) (elements_from (next_id id) cs ++ back))
    (subst (λ l. Shows ((front ++ e ∷ []) ++ (elements_from (next_id id) cs ++ back)) l) (append_assoc ops (op ∷ []) (inserts_from (next_id id) (Some id) cs)) rest)

-- ---- no others are accepted
-- A run of which each insert is accepted after those before it is accepted whole.
pub run_accepted_only : {size : Size} (cs : List ℕ) (c : ℕ) (ops : List Op) (id : OpId) (parent : Option OpId) → AcceptsAll size ops (inserts_from id parent (c ∷ cs)) → AcceptsRun size ops id parent (c ∷ cs)
unfolding inserts_from
run_accepted_only {size} [] c ops id parent all =
    let first : Accepts size ops (Insert id parent c) = subst (λ l. Accepts size l (Insert id parent c)) (append-nil ops) (all 0 (Insert id parent c) refl) in
    record {
      fresh = λ used. first.fresh (inl used);
      above = λ x e le. first.fresh (inr (x, inl e, le));
      known = λ x e. first.known x e;
      room =
          ⊎_elim
          (λ (low : count_by is_insert ops < most_characters size). omega arith)
          (λ (full : most_characters size ≤ count_by is_insert ops). absurd (first.room (inl (refl, full))))
          (cases_lt (count_by is_insert ops) (most_characters size));
      space =
          λ es h.
          let fits : length (visible_text es) + length (encode_utf8 c) ≤ most_bytes = bytes_room ops es (Insert id parent c) refl h first in
          let both = length-append (encode_utf8 c) [] in
          omega (arith, fits, both);
    }
run_accepted_only {size} (d ∷ cs) c ops id parent all =
    let first : Accepts size ops (Insert id parent c) = subst (λ l. Accepts size l (Insert id parent c)) (append-nil ops) (all 0 (Insert id parent c) refl) in
    let rest : AcceptsRun size (ops ++ Insert id parent c ∷ []) (next_id id) (Some id) (d ∷ cs) =
    run_accepted_only cs d (ops ++ Insert id parent c ∷ []) (next_id id) (Some id)
    (λ i op g. subst (λ l. Accepts size l op) (sym (append_assoc ops (Insert id parent c ∷ []) (take i (inserts_from (next_id id) (Some id) (d ∷ cs))))) (all (suc i) op g)) in
    let count : count_by is_insert (ops ++ Insert id parent c ∷ []) ≡ count_by is_insert ops + 1 = count_push is_insert ops (Insert id parent c) in
    let room : count_by is_insert (ops ++ Insert id parent c ∷ []) + length (d ∷ cs) ≤ most_characters size = rest.room in
    record {
      fresh = λ used. first.fresh (inl used);
      above = λ x e le. first.fresh (inr (x, inl e, le));
      known = λ x e. first.known x e;
      room = omega arith;
      space =
          λ es h.
          let next = one_inserted ops es id parent c h first in
          let space = rest.space next.0 next.1 in
          let grown = next.2 in
          let both = length-append (encode_utf8 c) (encode_utf8_all (d ∷ cs)) in
          omega (arith, space, grown, both);
    }
