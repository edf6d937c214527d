-- What a sequence holds once a run was inserted whole.
use Rattle.std.proofs.Common.{◌≡◌, ℕ, zero, suc, ◌+◌, ◌-◌, ◌<◌, ◌≤◌, List, [], ◌∷◌, ◌++◌, Option, Some, length, refl, sym, ap, subst, ◌∙◌, arith, ⊎_elim, length-append, append_assoc}
use Rattle.std.specs.List.{slice_get, Contains, count_by}
use Rattle.std.specs.Ordering.{nat_cmp}
use Rattle.std.specs.FinMap.{FinMap, get}
use Rattle.std.proofs.lemmas.Option.{same_Some, none-some, slice_get-get_or, get_or_from_slice_get, slice_get_within}
use Rattle.std.proofs.lemmas.List.Elements.{Contains-append_left, Contains-append_right, Contains-append_cases, Contains-push, Contains-push_cases}
use Rattle.std.proofs.lemmas.List.{append-nil}
use Rattle.change_ops.specs.Operations.{id_of, is_insert}
use Rattle.change_ops.specs.Runs.{next_id, inserts_from}
use Rattle.change_ops.specs.declared.id.OpId.{OpId}
use Rattle.change_ops.specs.declared.operation.Op.{Op}
use Rattle.change_ops.specs.declared.operation.Op.TheVariants.{Insert}
use Rattle.change_ops.specs.declared.size.Size.{Size}
use Rattle.char_sequence.specs.declared.sequence.Element.{Element}
use Rattle.char_sequence.specs.Held.{Holds, HoldsRemovals}
use Rattle.removal_runs.specs.Open.{Removals}
use Rattle.char_sequence.specs.Newest.{IsNewest}
use Rattle.char_sequence.specs.Places.{IsStart, IsPast}
use Rattle.char_sequence.proofs.Holding.{count_push, insert_not_remove, insert_not_revive}
use Rattle.char_sequence.proofs.Hiding.{held_other}
use Rattle.char_sequence.specs.RunElements.{elements_from, AcceptsRun}
use Rattle.char_sequence.proofs.RunKept.{run_shown}

-- The map of last counters for one operation fits several of its peer with lesser counters, of which it is one.
pub newest_last : (ops added : List Op) (op : Op) (newest : FinMap nat_cmp ℕ) → IsNewest (ops ++ op ∷ []) newest → Contains added op → ((o : Op) → Contains added o → ((id_of o).node ≡ (id_of op).node) × ((id_of o).counter ≤ (id_of op).counter)) → IsNewest (ops ++ added) newest
newest_last ops added op newest n held below = record {
  covered =
      λ o c.
      ⊎_elim
      (λ (old : Contains ops o). n.covered o (Contains-append_left ops (op ∷ []) o old))
      (λ (new : Contains added o).
      let r = n.covered op (Contains-push ops op) in
      let b = below o new in
      let low : (id_of o).counter ≤ (id_of op).counter = b.1 in
      let high : (id_of op).counter ≤ r.0 = r.2 in
      (r.0, subst (λ z. get newest z ≡ Some r.0) (sym b.0) r.1, omega arith))
      (Contains-append_cases ops added o c);
  reached =
      λ node last g.
      let r = n.reached node last g in
      let there : Contains (ops ++ added) r.0 =
      ⊎_elim
      (λ (old : Contains ops r.0). Contains-append_left ops added r.0 old)
      (λ (new : op ≡ r.0). subst (λ z. Contains (ops ++ added) z) new (Contains-append_right ops added op held))
      (Contains-push_cases ops op r.0 r.1)
      in
      (r.0, there, r.2, r.3);
}

-- the inserts of a run have its node, and counters from the first one on
run_at : (cs : List ℕ) (id : OpId) (parent : Option OpId) (i : ℕ) (o : Op) → slice_get (inserts_from id parent cs) i ≡ Some o → ((id_of o).node ≡ id.node) × ((id_of o).counter ≡ id.counter + i) × (i < length cs)
unfolding inserts_from
run_at [] id parent i o g = absurd (none-some o g)
run_at (c ∷ cs) id parent zero o g =
    let same : Insert id parent c ≡ o = same_Some (Insert id parent c) o g in
    let counter : id.counter ≡ (id_of o).counter = ap (λ z. (id_of z).counter) same in
    (ap (λ z. (id_of z).node) (sym same), omega arith, omega arith)
run_at (c ∷ cs) id parent (suc i) o g =
    let r = run_at cs (next_id id) (Some id) i o g in
    let counter : (id_of o).counter ≡ (id.counter + 1) + i = r.1 in
    let within : i < length cs = r.2 in
    (r.0, omega arith, omega arith)

run_reaches : (cs : List ℕ) (id : OpId) (parent : Option OpId) (i : ℕ) → i < length cs → (o : Op) × (slice_get (inserts_from id parent cs) i ≡ Some o)
unfolding inserts_from
run_reaches [] id parent i within = absurd (omega arith)
run_reaches (c ∷ cs) id parent zero within = (Insert id parent c, refl)
run_reaches (c ∷ cs) id parent (suc i) within = run_reaches cs (next_id id) (Some id) i (omega arith)

pub length-elements : (cs : List ℕ) (id : OpId) → length (elements_from id cs) ≡ length cs
length-elements [] id = refl
length-elements (c ∷ cs) id = ap suc (length-elements cs (next_id id))

-- as many inserts more as the run has characters
pub count_run : (cs : List ℕ) (ops : List Op) (id : OpId) (parent : Option OpId) → count_by is_insert (ops ++ inserts_from id parent cs) ≡ count_by is_insert ops + length cs
unfolding inserts_from
count_run [] ops id parent = let same = ap (count_by is_insert) (append-nil ops) in omega (arith, same)
count_run (c ∷ cs) ops id parent =
    let one : count_by is_insert (ops ++ Insert id parent c ∷ []) ≡ count_by is_insert ops + 1 = count_push is_insert ops (Insert id parent c) in
    let rest = count_run cs (ops ++ Insert id parent c ∷ []) (next_id id) (Some id) in
    let same = ap (count_by is_insert) (append_assoc ops (Insert id parent c ∷ []) (inserts_from (next_id id) (Some id) cs)) in
    omega (arith, one, rest, same)

-- The map of last counters with the last id of a run noted fits all of the run.
pub run_noted : (cs : List ℕ) (ops : List Op) (id : OpId) (parent : Option OpId) (later : FinMap nat_cmp ℕ) → 0 < length cs → ((op : Op) → ((id_of op).node ≡ id.node) → ((id_of op).counter + 1 ≡ id.counter + length cs) → IsNewest (ops ++ op ∷ []) later) → IsNewest (ops ++ inserts_from id parent cs) later
run_noted cs ops id parent later some noted =
    let added = inserts_from id parent cs in
    let last : ℕ = length cs - 1 in
    let r = run_reaches cs id parent last (omega arith) in
    let at = run_at cs id parent last r.0 r.1 in
    let counter : (id_of r.0).counter ≡ id.counter + last = at.1 in
    let end : (id_of r.0).counter + 1 ≡ id.counter + length cs = omega arith in
    newest_last ops added r.0 later (noted r.0 at.0 end) (last, slice_get_within added last r.0 r.1, get_or_from_slice_get added last r.0 r.0 r.1)
    (λ o held.
    let one = run_at cs id parent held.0 o (slice_get-get_or added held.0 o held.1 ∙ ap Some held.2) in
    let here : (id_of o).counter ≡ id.counter + held.0 = one.1 in
    let within : held.0 < length cs = one.2 in
    (one.0 ∙ sym at.0, omega arith))

-- the removals are those of the operations with a run's inserts too
held_run : (cs : List ℕ) (removals : Removals) (ops : List Op) (id : OpId) (parent : Option OpId) → HoldsRemovals removals ops → HoldsRemovals removals (ops ++ inserts_from id parent cs)
unfolding inserts_from
held_run [] removals ops id parent h = subst (λ l. HoldsRemovals removals l) (sym (append-nil ops)) h
held_run (c ∷ cs) removals ops id parent h =
    subst (λ l. HoldsRemovals removals l) (append_assoc ops (Insert id parent c ∷ []) (inserts_from (next_id id) (Some id) cs))
    (held_run cs removals (ops ++ Insert id parent c ∷ []) (next_id id) (Some id) (held_other removals ops (Insert id parent c) (insert_not_remove id parent c) (insert_not_revive id parent c) h))

-- A sequence that holds the operations holds those of the run too, once the run's elements stand as one piece where its first one goes, and
-- its last id is noted.
pub run_held : {size : Size} (cs : List ℕ) (ops : List Op) (front back : List Element) (id : OpId) (parent : Option OpId) (start : ℕ) (newest later : FinMap nat_cmp ℕ) (removals : Removals) → 0 < length cs → Holds (record { elements = front ++ back; newest = newest; removals = removals }) ops → AcceptsRun size ops id parent cs → IsStart ops (front ++ back) parent start → IsPast (front ++ back) id start (length front) → ((op : Op) → ((id_of op).node ≡ id.node) → ((id_of op).counter + 1 ≡ id.counter + length cs) → IsNewest (ops ++ op ∷ []) later) → Holds (record { elements = front ++ (elements_from id cs ++ back); newest = later; removals = removals }) (ops ++ inserts_from id parent cs)
run_held cs ops front back id parent start newest later removals some h a st past noted =
    let size : length (front ++ back) ≡ count_by is_insert ops = h.size in
    record {
      shows = run_shown cs ops front back id parent start h.shows a st past;
      newest = run_noted cs ops id parent later some noted;
      removals = held_run cs removals ops id parent h.removals;
      size =
          omega (arith, size, count_run cs ops id parent, length-elements cs id, length-append front back, length-append front (elements_from id cs ++ back), length-append (elements_from id cs) back);
    }
