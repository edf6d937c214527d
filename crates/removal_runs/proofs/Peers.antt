-- The removals of all peers: in which peer's part a removal stands.
use Rattle.std.proofs.Common.{◌≡◌, ℕ, ◌+◌, ◌<◌, ◌≤◌, ◌^◌, List, [], ◌∷◌, ◌++◌, Option, Some, None, map, set, sym, ap, ◌∙◌, subst, arith, ⊎_elim}
use Rattle.std.specs.List.{slice_get, insert, flat_map, Contains}
use Rattle.std.specs.Option.{IfSome, MatchOption}
use Rattle.std.specs.List.Sorted.{IsPermutation}
use Rattle.std.proofs.lemmas.List.{map_push}
use Rattle.std.proofs.lemmas.Option.{same_Some, none-some}
use Rattle.std.proofs.lemmas.Bool.{cases_lt}
use Rattle.change_ops.specs.declared.id.OpId.{OpId}
use Rattle.removal_runs.specs.Apart.{AreApart, IsFound, IsGap}
use Rattle.removal_runs.specs.Removals.{Removal, PeerRemoval, PeerRemovals, named, removals_of_peer, node_of_peer, ArePeers}
use Rattle.removal_runs.proofs.Apart.{one_place, insert_apart, set_apart, ends_before}
use Rattle.removal_runs.proofs.Joining.{StandsIn, stands_in, from_part, mapped_from, mapped_to, one_more}

-- ---- any parts that are kept in the order of their nodes
pub found_place : {X : Type 0} (key : X → ℕ) (low : ℕ) (xs : List X) (high wanted place k : ℕ) (x : X) → AreApart key (λ x. key x + 1) low xs high → IsFound key xs wanted place → slice_get xs k ≡ Some x → key x ≡ wanted → slice_get xs place ≡ Some x
found_place key low xs high wanted place k x apart found at is =
    let here = found.same in
    let same : k ≡ place = one_place key (λ x. key x + 1) low xs high k place x found.thing wanted apart at found.at (omega arith) (omega arith) (omega arith) (omega arith) in
    ap (slice_get xs) (sym same) ∙ at

pub not_in_gap : {X : Type 0} (key : X → ℕ) (xs : List X) (wanted place k : ℕ) (x : X) → IsGap key xs wanted place → slice_get xs k ≡ Some x → key x ≡ wanted → ⊥
not_in_gap key xs wanted place k x gap at is =
    ⊎_elim
    (λ (less : k < place). let below : key x < wanted = gap.below k x less at in omega arith)
    (λ (le : place ≤ k). let above : wanted < key x = gap.above k x le at in omega arith)
    (cases_lt k place)

pub inserted_peer : {X : Type 0} (key : X → ℕ) (xs : List X) (high place : ℕ) (z : X) → AreApart key (λ x. key x + 1) 0 xs high → IsGap key xs (key z) place → key z < high → AreApart key (λ x. key x + 1) 0 (insert xs place z) high
inserted_peer key xs high place z apart gap small =
    insert_apart key (λ x. key x + 1) 0 xs high place z apart (omega arith) (omega arith) (omega arith)
    (λ k y less at. let below : key y < key z = gap.below k y less at in omega arith)
    (λ k y le at. let above : key z < key y = gap.above k y le at in omega arith)

pub changed_peer : {X : Type 0} (key : X → ℕ) (xs : List X) (high place : ℕ) (x z : X) → AreApart key (λ x. key x + 1) 0 xs high → slice_get xs place ≡ Some x → key z ≡ key x → key x < high → AreApart key (λ x. key x + 1) 0 (set xs place z) high
changed_peer key xs high place x z apart at same small =
    set_apart key (λ x. key x + 1) 0 xs high place z apart (omega arith) (omega arith) (omega arith)
    (λ k y less there. let before : key y + 1 ≤ key x = ends_before key (λ x. key x + 1) 0 xs high k place y x apart less there at in omega arith)
    (λ k y le there. let before : key x + 1 ≤ key y = ends_before key (λ x. key x + 1) 0 xs high place k x y apart (omega arith) at there in omega arith)

-- ---- removals
pub record InPeer (peers : List PeerRemovals) (id target : OpId) : Type 0 where
  pub place : ℕ
  pub peer : PeerRemovals
  pub at : slice_get peers place ≡ Some peer
  pub node : peer.node ≡ id.node
  pub has : Contains peer.removals (record { counter = id.counter; target = target })

pub in_peer : (peers : List PeerRemovals) (id target : OpId) → Contains (flat_map removals_of_peer peers) (record { id = id; target = target }) → InPeer peers id target
in_peer peers id target has =
    let stands : StandsIn removals_of_peer peers (record { id = id; target = target }) = stands_in removals_of_peer peers (record { id = id; target = target }) has in
    let peer : PeerRemovals = stands.part in
    let from = mapped_from (named peer.node) peer.removals (record { id = id; target = target }) stands.has in
    let r : PeerRemoval = from.0 in
    let is : named peer.node r ≡ record { id = id; target = target } = from.2 in
    let one : r.counter ≡ id.counter = ap (λ (x : Removal). x.id.counter) is in
    let two : r.target ≡ target = ap (λ (x : Removal). x.target) is in
    let make : ℕ → OpId → PeerRemoval = λ n t. record { counter = n; target = t } in
    let same : r ≡ make id.counter target = ap (λ n. make n r.target) one ∙ ap (λ t. make id.counter t) two in
    record {
      place = stands.place;
      peer = peer;
      at = stands.at;
      node = ap (λ (x : Removal). x.id.node) is;
      has = subst (λ z. Contains peer.removals z) same from.1;
    }

pub from_peer : (peers : List PeerRemovals) (place : ℕ) (peer : PeerRemovals) (id target : OpId) → slice_get peers place ≡ Some peer → peer.node ≡ id.node → Contains peer.removals (record { counter = id.counter; target = target }) → Contains (flat_map removals_of_peer peers) (record { id = id; target = target })
from_peer peers place peer id target at node has =
    let make : ℕ → Removal = λ n. record { id = record { counter = id.counter; node = n }; target = target } in
    subst (λ n. Contains (flat_map removals_of_peer peers) (make n)) node
    (from_part removals_of_peer peers place peer (make peer.node) at (mapped_to (named peer.node) peer.removals (record { counter = id.counter; target = target }) has))

pub in_found_peer : (peers : List PeerRemovals) (place : ℕ) (peer : PeerRemovals) (id target : OpId) → ArePeers peers → IsFound node_of_peer peers id.node place → slice_get peers place ≡ Some peer → Contains (flat_map removals_of_peer peers) (record { id = id; target = target }) → Contains peer.removals (record { counter = id.counter; target = target })
in_found_peer peers place peer id target ok found at has =
    let inside = in_peer peers id target has in
    let there = found_place node_of_peer 0 peers (2 ^ 16) id.node place inside.place inside.peer ok found inside.at inside.node in
    let same : inside.peer ≡ peer = same_Some inside.peer peer (sym there ∙ at) in
    subst (λ (p : PeerRemovals). Contains p.removals (record { counter = id.counter; target = target })) same inside.has

pub in_no_peer : (peers : List PeerRemovals) (place : ℕ) (id target : OpId) → IsGap node_of_peer peers id.node place → Contains (flat_map removals_of_peer peers) (record { id = id; target = target }) → ⊥
in_no_peer peers place id target gap has =
    let inside = in_peer peers id target has in
    not_in_gap node_of_peer peers id.node place inside.place inside.peer gap inside.at inside.node

pub found_node : (peers : List PeerRemovals) (place node : ℕ) (peer : PeerRemovals) → IsFound node_of_peer peers node place → slice_get peers place ≡ Some peer → peer.node ≡ node
found_node peers place node peer found at =
    let same : found.thing ≡ peer = same_Some found.thing peer (sym found.at ∙ at) in
    subst (λ (p : PeerRemovals). p.node ≡ node) same found.same

-- what a peer answers of one of its removals is what all peers do
pub found_target : (peers : List PeerRemovals) (place : ℕ) (peer : PeerRemovals) (id : OpId) (answer : Option OpId) → ArePeers peers → IsFound node_of_peer peers id.node place → slice_get peers place ≡ Some peer → IfSome answer (λ x. Contains peer.removals (record { counter = id.counter; target = x })) → ((x : OpId) → Contains peer.removals (record { counter = id.counter; target = x }) → answer ≡ Some x) → MatchOption answer ((x : OpId) → Contains (flat_map removals_of_peer peers) (record { id = id; target = x }) → ⊥) (λ x. Contains (flat_map removals_of_peer peers) (record { id = id; target = x }))
found_target peers place peer id None ok found at is only = λ x has. none-some x (only x (in_found_peer peers place peer id x ok found at has))
found_target peers place peer id (Some x) ok found at is only = from_peer peers place peer id x at (found_node peers place id.node peer found at) is

-- ---- one more removal of a peer
pub more_of_peer : (p q : PeerRemovals) (id target : OpId) → p.node ≡ id.node → q.node ≡ p.node → q.removals ≡ p.removals ++ (record { counter = id.counter; target = target }) ∷ [] → IsPermutation ((record { id = id; target = target }) ∷ removals_of_peer p) (removals_of_peer q)
more_of_peer p q id target node kept more =
    let r : PeerRemoval = record { counter = id.counter; target = target } in
    let a : Removal = record { id = id; target = target } in
    let is : removals_of_peer q ≡ removals_of_peer p ++ a ∷ [] =
    ap (λ n. map (named n) q.removals) kept ∙ ap (map (named p.node)) more ∙ map_push (named p.node) p.removals r
    ∙ ap (λ n. removals_of_peer p ++ named n r ∷ []) node in
    subst (λ z. IsPermutation (a ∷ removals_of_peer p) z) (sym is) (one_more (removals_of_peer p) a)

pub same_of_peer : (p q : PeerRemovals) → q.node ≡ p.node → q.removals ≡ p.removals → removals_of_peer q ≡ removals_of_peer p
same_of_peer p q kept same = ap (λ n. map (named n) q.removals) kept ∙ ap (map (named p.node)) same

pub first_of_peer : (p q : PeerRemovals) (id target : OpId) → p.node ≡ id.node → q.node ≡ p.node → p.removals ≡ [] → q.removals ≡ p.removals ++ (record { counter = id.counter; target = target }) ∷ [] → IsPermutation ((record { id = id; target = target }) ∷ []) (removals_of_peer q)
first_of_peer p q id target node kept none more =
    let a : Removal = record { id = id; target = target } in
    subst (λ z. IsPermutation (a ∷ z) (removals_of_peer q)) (ap (map (named p.node)) none) (more_of_peer p q id target node kept more)
