-- What a map of last counters says of the operations.
use Rattle.std.proofs.Common.{◌≡◌, ℕ, ◌<◌, ◌≤◌, true, false, cond, List, [], ◌∷◌, ◌++◌, Option, Some, None, MatchOption, sym, ap, refl, ◌∙◌, arith, ⊎_elim}
use Rattle.std.specs.Prelude.{nat_eq, IsSome}
use Rattle.std.specs.List.{Contains}
use Rattle.std.specs.Map.{lookup}
use Rattle.std.specs.Ordering.{nat_cmp}
use Rattle.std.specs.Cmp.{nat_cmp_total, unsigned_tied}
use Rattle.std.specs.FinMap.{FinMap, get, from_entries, find, get-from_entries, same_map, nat_cmp-IsAntisymmetric}
use Rattle.std.proofs.lemmas.Option.{same_Some, none-some}
use Rattle.std.proofs.lemmas.Bool.{cases_eq, cases_lt, eqb-true}
use Rattle.std.proofs.lemmas.List.Elements.{Contains-append_left, Contains-push, Contains-push_cases}
use Rattle.change_ops.specs.Operations.{id_of}
use Rattle.change_ops.specs.declared.id.OpId.{OpId}
use Rattle.change_ops.specs.declared.operation.Op.{Op}
use Rattle.char_sequence.specs.Acceptance.{Used}
use Rattle.char_sequence.specs.Newest.{IsNewest, IsLast}

find_lookup : (es : List (ℕ × ℕ)) (q : ℕ) → find nat_cmp q es ≡ lookup (nat_eq q) es
find_lookup [] q = refl
find_lookup (e ∷ es) q =
    ap (λ b. cond b (Some e.1) (find nat_cmp q es)) (unsigned_tied q e.0) ∙ ap (cond (nat_eq q e.0) (Some e.1)) (find_lookup es q)

-- the map of the entries answers as a look-up in them
pub get_lookup : (es : List (ℕ × ℕ)) (m : FinMap nat_cmp ℕ) → from_entries es ≡ m → (q : ℕ) → get m q ≡ lookup (nat_eq q) es
get_lookup es m e q = ap (λ n. get n q) (sym e) ∙ get-from_entries nat_cmp_total es q ∙ find_lookup es q

pub newest_none : (m : FinMap nat_cmp ℕ) → ((q : ℕ) → get m q ≡ None) → IsNewest [] m
newest_none m none = record {
  covered = λ o h. absurd (let less : h.0 < 0 = h.1 in omega arith);
  reached = λ node last e. absurd (none-some last (sym (none node) ∙ e));
}

pub used_from : (ops : List Op) (m : FinMap nat_cmp ℕ) → IsNewest ops m → (id : OpId) (last : ℕ) → get m id.node ≡ Some last → id.counter ≤ last → Used ops id
used_from ops m n id last e h =
    let r = n.reached id.node last e in
    let same : (id_of r.0).counter ≡ last = r.3 in
    (r.0, r.1, r.2, omega arith)

pub used_to : (ops : List Op) (m : FinMap nat_cmp ℕ) → IsNewest ops m → (id : OpId) (last : ℕ) → get m id.node ≡ Some last → Used ops id → id.counter ≤ last
used_to ops m n id last e u =
    let r = n.covered u.0 u.1 in
    let same : last ≡ r.0 = same_Some last r.0 (sym e ∙ ap (get m) (sym u.2) ∙ r.1) in
    let upper : (id_of u.0).counter ≤ r.0 = r.2 in
    let lower : id.counter ≤ (id_of u.0).counter = u.3 in
    omega arith

pub used_none : (ops : List Op) (m : FinMap nat_cmp ℕ) → IsNewest ops m → (id : OpId) → get m id.node ≡ None → Used ops id → ⊥
used_none ops m n id e u =
    let r = n.covered u.0 u.1 in
    none-some r.0 (sym e ∙ ap (get m) (sym u.2) ∙ r.1)

pub last_of : (ops : List Op) (m : FinMap nat_cmp ℕ) → IsNewest ops m → (node : ℕ) (r : Option ℕ) → r ≡ get m node → MatchOption r ((o : Op) → Contains ops o → (id_of o).node ≡ node → ⊥) (IsLast ops node)
last_of ops m n node None e = λ o held same.
    let r = n.covered o held in
    none-some r.0 (e ∙ ap (get m) (sym same) ∙ r.1)
last_of ops m n node (Some last) e = record {
  covered =
      λ o held same.
      let r = n.covered o held in
      let is : last ≡ r.0 = same_Some last r.0 (e ∙ ap (get m) (sym same) ∙ r.1) in
      let le : (id_of o).counter ≤ r.0 = r.2 in
      omega arith;
  reached = n.reached node last (sym e);
}

-- an id that is used in none of the operations of these counters is used in no other operations of theirs
pub used_other : (ops others : List Op) (m : FinMap nat_cmp ℕ) (id : OpId) → IsNewest ops m → IsNewest others m → (Used ops id → ⊥) → Used others id → ⊥
used_other ops others m id n o fresh u =
    let r = o.covered u.0 u.1 in
    let upper : (id_of u.0).counter ≤ r.0 = r.2 in
    let lower : id.counter ≤ (id_of u.0).counter = u.3 in
    fresh (used_from ops m n id r.0 (ap (get m) (sym u.2) ∙ r.1) (omega arith))

-- one more operation, whose id replaces its peer's last one
pub newest_noted : (ops : List Op) (op : Op) (id : OpId) (m n : FinMap nat_cmp ℕ) → id_of op ≡ id → (Used ops id → ⊥) → IsNewest ops m → get n id.node ≡ Some id.counter → ((q : ℕ) → (q ≡ id.node → ⊥) → get n q ≡ get m q) → IsNewest (ops ++ op ∷ []) n
newest_noted ops op id m n is fresh ok here other = record {
  covered =
      λ o h.
      ⊎_elim
      (λ (old : Contains ops o).
      let r = ok.covered o old in
      ⊎_elim
      (λ (same : (id_of o).node ≡ id.node).
      let less : (id_of o).counter ≤ id.counter =
      ⊎_elim
      (λ (l : (id_of o).counter < id.counter). omega arith)
      (λ (g : id.counter ≤ (id_of o).counter). absurd (fresh (o, old, same, g)))
      (cases_lt (id_of o).counter id.counter)
      in
      (id.counter, ap (get n) same ∙ here, less))
      (λ (apart : (id_of o).node ≡ id.node → ⊥). (r.0, other (id_of o).node apart ∙ r.1, r.2))
      (cases_eq (id_of o).node id.node))
      (λ (new : op ≡ o).
      let e : id_of o ≡ id = sym (ap id_of new) ∙ is in
      let same = ap (λ z. z.counter) e in
      (id.counter, ap (λ z. get n z.node) e ∙ here, omega (arith, same)))
      (Contains-push_cases ops op o h);
  reached =
      λ node last e.
      ⊎_elim
      (λ (same : node ≡ id.node).
      let counter : id.counter ≡ last = same_Some id.counter last (sym here ∙ ap (get n) (sym same) ∙ e) in
      (op, Contains-push ops op, ap (λ z. z.node) is ∙ sym same, ap (λ z. z.counter) is ∙ counter))
      (λ (apart : node ≡ id.node → ⊥).
      let r = ok.reached node last (sym (other node apart) ∙ e) in
      (r.0, Contains-append_left ops (op ∷ []) r.0 r.1, r.2, r.3))
      (cases_eq node id.node);
}

pub apart_nodes : (k node q : ℕ) → k ≡ node → (q ≡ node → ⊥) → nat_eq k q ≡ false
apart_nodes k node q e apart =
    elim (nat_eq k q) as (λ b. nat_eq k q ≡ b → b ≡ false) [
      | true ↦ λ t. absurd (apart (sym (eqb-true k q t) ∙ e))
      | false ↦ λ t. refl
    ] refl

-- once the peer's earlier counter is put back, the map is as it was
pub restored : (old new : List (ℕ × ℕ)) (m before : FinMap nat_cmp ℕ) (node : ℕ) (kept : Option ℕ) → from_entries old ≡ m → lookup (nat_eq node) new ≡ kept → ((other : ℕ) → (node ≡ other → ⊥) → lookup (nat_eq other) new ≡ lookup (nat_eq other) old) → get before node ≡ kept → ((other : ℕ) → (other ≡ node → ⊥) → get before other ≡ get m other) → from_entries new ≡ before
restored old new m before node kept is here others was elsewhere =
    same_map nat_cmp_total nat_cmp-IsAntisymmetric (from_entries new) before
    (λ other.
    ⊎_elim
    (λ (same : other ≡ node).
    get_lookup new (from_entries new) refl other ∙ ap (λ q. lookup (nat_eq q) new) same ∙ here ∙ sym was ∙ ap (get before) (sym same))
    (λ (apart : other ≡ node → ⊥).
    get_lookup new (from_entries new) refl other ∙ others other (λ e. apart (sym e)) ∙ sym (get_lookup old m is other) ∙ sym (elsewhere other apart))
    (cases_eq other node))

pub there_still : (r : Option ℕ) → (r ≡ None → ⊥) → IsSome r
there_still None none = absurd (none refl)
there_still (Some n) none = refl
