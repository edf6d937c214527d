-- The ids of all peers: in which peer's part an id stands.
use Rattle.std.proofs.Common.{◌≡◌, ℕ, zero, suc, ◌⊎◌, ◌^◌, List, [], ◌∷◌, Some, map, sym, ap, refl, ◌∙◌, subst, arith, inl, inr, ⊎_elim}
use Rattle.std.specs.Prelude.{◌↔◌}
use Rattle.std.specs.List.{slice_get, flat_map, Contains}
use Rattle.std.specs.List.Sorted.{IsPermutation}
use Rattle.std.proofs.lemmas.List.Elements.{Contains-append_left, Contains-append_right, Contains-append_cases}
use Rattle.std.proofs.lemmas.List.Sorted.{Contains-permutation, IsPermutation-sym, IsPermutation-map}
use Rattle.std.proofs.lemmas.Option.{same_Some}
use Rattle.change_ops.specs.declared.id.OpId.{OpId}
use Rattle.removal_runs.specs.Apart.{IsFound, IsGap}
use Rattle.removal_runs.specs.IdSets.{PeerCounters, id_at, ids_of_peer, node_of_counters, AreCounters}
use Rattle.removal_runs.proofs.Joining.{StandsIn, stands_in, from_part, mapped_from, mapped_to}
use Rattle.removal_runs.proofs.Peers.{found_place, not_in_gap}

pub record InCounters (peers : List PeerCounters) (id : OpId) : Type 0 where
  pub place : ℕ
  pub peer : PeerCounters
  pub at : slice_get peers place ≡ Some peer
  pub node : peer.node ≡ id.node
  pub has : Contains peer.counters id.counter

pub in_counters : (peers : List PeerCounters) (id : OpId) → Contains (flat_map ids_of_peer peers) id → InCounters peers id
in_counters peers id has =
    let stands : StandsIn ids_of_peer peers id = stands_in ids_of_peer peers id has in
    let peer : PeerCounters = stands.part in
    let from = mapped_from (id_at peer.node) peer.counters id stands.has in
    record {
      place = stands.place;
      peer = peer;
      at = stands.at;
      node = ap (λ (x : OpId). x.node) from.2;
      has = subst (λ z. Contains peer.counters z) (ap (λ (x : OpId). x.counter) from.2) from.1;
    }

pub from_counters : (peers : List PeerCounters) (place : ℕ) (peer : PeerCounters) (id : OpId) → slice_get peers place ≡ Some peer → peer.node ≡ id.node → Contains peer.counters id.counter → Contains (flat_map ids_of_peer peers) id
from_counters peers place peer id at node has =
    subst (λ n. Contains (flat_map ids_of_peer peers) (id_at n id.counter)) node
    (from_part ids_of_peer peers place peer (id_at peer.node id.counter) at (mapped_to (id_at peer.node) peer.counters id.counter has))

pub in_found_counters : (peers : List PeerCounters) (place : ℕ) (peer : PeerCounters) (id : OpId) → AreCounters peers → IsFound node_of_counters peers id.node place → slice_get peers place ≡ Some peer → Contains (flat_map ids_of_peer peers) id → Contains peer.counters id.counter
in_found_counters peers place peer id ok found at has =
    let inside = in_counters peers id has in
    let there = found_place node_of_counters 0 peers (2 ^ 16) id.node place inside.place inside.peer ok found inside.at inside.node in
    let same : inside.peer ≡ peer = same_Some inside.peer peer (sym there ∙ at) in
    subst (λ (p : PeerCounters). Contains p.counters id.counter) same inside.has

pub in_no_counters : (peers : List PeerCounters) (place : ℕ) (id : OpId) → IsGap node_of_counters peers id.node place → Contains (flat_map ids_of_peer peers) id → ⊥
in_no_counters peers place id gap has =
    let inside = in_counters peers id has in
    not_in_gap node_of_counters peers id.node place inside.place inside.peer gap inside.at inside.node

pub found_counters : (peers : List PeerCounters) (place node : ℕ) (peer : PeerCounters) → IsFound node_of_counters peers node place → slice_get peers place ≡ Some peer → peer.node ≡ node
found_counters peers place node peer found at =
    let same : found.thing ≡ peer = same_Some found.thing peer (sym found.at ∙ at) in
    subst (λ (p : PeerCounters). p.node ≡ node) same found.same

-- ---- what a set has after an insert
only_it : {A : Type 0} (a x : A) → Contains (a ∷ []) x → a ≡ x
only_it a x (zero, within, at) = at
only_it a x (suc k, within, at) = absurd (omega (arith, within))

pub has_one_more : (id : OpId) (old new : List OpId) → IsPermutation (id ∷ old) new → (x : OpId) → Contains new x ↔ (Contains old x ⊎ (x ≡ id))
has_one_more id old new permuted x = (
  λ has.
      ⊎_elim
      (λ (here : Contains (id ∷ []) x). inr (sym (only_it id x here)))
      (λ (before : Contains old x). inl before)
      (Contains-append_cases (id ∷ []) old x (Contains-permutation new (id ∷ old) x (IsPermutation-sym (id ∷ old) new permuted) has)),
  λ cases.
      ⊎_elim
      (λ (before : Contains old x). Contains-permutation (id ∷ old) new x permuted (Contains-append_right (id ∷ []) old x before))
      (λ (same : x ≡ id). subst (λ z. Contains new z) (sym same) (Contains-permutation (id ∷ old) new id permuted (Contains-append_left (id ∷ []) old id (zero, omega arith, refl))))
      cases,
)

pub has_no_more : (id : OpId) (old new : List OpId) → Contains old id → new ≡ old → (x : OpId) → Contains new x ↔ (Contains old x ⊎ (x ≡ id))
has_no_more id old new there same x = (
  λ has. inl (subst (λ z. Contains z x) same has),
  λ cases.
      ⊎_elim
      (λ (before : Contains old x). subst (λ z. Contains z x) (sym same) before)
      (λ (is : x ≡ id). subst (λ z. Contains z x) (sym same) (subst (λ z. Contains old z) (sym is) there))
      cases,
)

-- ---- one more counter of a peer
pub more_ids : (p q : PeerCounters) (id : OpId) → p.node ≡ id.node → q.node ≡ p.node → IsPermutation (id.counter ∷ p.counters) q.counters → IsPermutation (id ∷ ids_of_peer p) (ids_of_peer q)
more_ids p q id node kept more =
    let moved : IsPermutation (id_at p.node id.counter ∷ ids_of_peer p) (map (id_at p.node) q.counters) = IsPermutation-map (id_at p.node) (id.counter ∷ p.counters) q.counters more in
    subst (λ n. IsPermutation (id ∷ ids_of_peer p) (map (id_at n) q.counters)) (sym kept)
    (subst (λ n. IsPermutation (id_at n id.counter ∷ ids_of_peer p) (map (id_at p.node) q.counters)) node moved)

pub same_ids : (p q : PeerCounters) → q.node ≡ p.node → q.counters ≡ p.counters → ids_of_peer q ≡ ids_of_peer p
same_ids p q kept same = ap (λ n. map (id_at n) q.counters) kept ∙ ap (map (id_at p.node)) same

pub first_id : (p q : PeerCounters) (id : OpId) → p.node ≡ id.node → q.node ≡ p.node → p.counters ≡ [] → IsPermutation (id.counter ∷ p.counters) q.counters → IsPermutation (id ∷ []) (ids_of_peer q)
first_id p q id node kept none more = subst (λ z. IsPermutation (id ∷ z) (ids_of_peer q)) (ap (map (id_at p.node)) none) (more_ids p q id node kept more)
