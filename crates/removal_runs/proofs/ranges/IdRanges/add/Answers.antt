use Rattle.std.proofs.Common.{◌≡◌, ◌+◌, ◌≤◌, ◌^◌, [], ◌∷◌, Some, length, set, sym, ◌∙◌, subst, refl, arith, rules}
use Rattle.std.specs.List.{slice_get, insert, flat_map, Contains}
use Rattle.std.specs.List.Sorted.{IsPermutation}
use Rattle.std.proofs.lemmas.Option.{slice_get_within, slice_get_read}
use Rattle.std.proofs.lemmas.Result.{on_ok_weaker, on_err_weaker}
use Rattle.change_ops.specs.declared.id.OpId.{OpId}
use Rattle.removal_runs.specs.Apart.{IsFound, IsGap}
use Rattle.removal_runs.specs.IdSets.{PeerCounters, AreCounters, node_of_counters, ids_of_peer}
use Rattle.removal_runs.proofs.Peers.{changed_peer, inserted_peer}
use Rattle.removal_runs.proofs.IdPeers.{from_counters, found_counters, more_ids, same_ids, first_id}
use Rattle.removal_runs.proofs.Apart.{high_is_above}
use Rattle.removal_runs.proofs.Joining.{more_in_part, inserted_part, same_part}
use Rattle.removal_runs.proofs.ranges.IdRanges.add.Goals as goal

pub add-requires-clause-fresh : goal.add-requires-clause-fresh
add-requires-clause-fresh c =
    λ has.
    let peers = c.self.inside.peers.items in
    let place = c.in-Ok.place in
    let peer = c.index_mut.result.now in
    let id = c.args.id in
    let found : IsFound node_of_counters peers id.node place = subst (λ z. IsFound node_of_counters z id.node place) c.deref.ensures.value (subst (λ n. IsFound node_of_counters c.deref.result.now n place) c.node.ensures.value c.in-Ok.ensures) in
    let at : slice_get peers place ≡ Some peer = slice_get_read peers (length peers) place peer refl (slice_get_within peers place found.thing found.at) c.index_mut.ensures.value in
    let node : peer.node ≡ id.node = found_counters peers place id.node peer found at in
    c.requires (subst (λ v. Contains v id) c.self.view_is (from_counters peers place peer id at node (subst (λ n. Contains peer.counters n) c.counter.ensures.value has)))

pub invariant_of-self : goal.invariant_of-self
invariant_of-self c =
    let peers = c.self.inside.peers.items in
    let place = c.in-Ok.place in
    let peer = c.index_mut.result.now in
    let id = c.args.id in
    let found : IsFound node_of_counters peers id.node place = subst (λ z. IsFound node_of_counters z id.node place) c.deref.ensures.value (subst (λ n. IsFound node_of_counters c.deref.result.now n place) c.node.ensures.value c.in-Ok.ensures) in
    let at : slice_get peers place ≡ Some peer = slice_get_read peers (length peers) place peer refl (slice_get_within peers place found.thing found.at) c.index_mut.ensures.value in
    let node : peer.node ≡ id.node = found_counters peers place id.node peer found at in
    let high : peer.node + 1 ≤ 2 ^ 16 = high_is_above node_of_counters (λ (p : PeerCounters). p.node + 1) 0 peers (2 ^ 16) place peer c.self.invariant at in
    changed_peer node_of_counters peers (2 ^ 16) place peer c.add.new.self c.self.invariant at c.add.ensures.node (omega arith)

pub invariant_of-self-in-Err : goal.invariant_of-self-in-Err
invariant_of-self-in-Err c =
    let peers = c.self.inside.peers.items in
    let place = c.in-Err.place in
    let id = c.args.id in
    let q = c.add-in-Err.new.self in
    let is_new : c.new-peer.result.node ≡ id.node = c.new-peer.ensures.node ∙ c.node-in-Err.ensures.value in
    let items : c.insert.new.self.items ≡ insert peers place q = search rules in
    let kept : q.node ≡ id.node = c.in_ok-add-in-Err.ensures.node ∙ is_new in
    let gap : IsGap node_of_counters peers id.node place = subst (λ z. IsGap node_of_counters z id.node place) c.deref.ensures.value (subst (λ n. IsGap node_of_counters c.deref.result.now n place) c.node.ensures.value c.in-Err.ensures) in
    let known = c.node.ensures.limits.known in
    subst AreCounters (sym items) (inserted_peer node_of_counters peers (2 ^ 16) place q c.self.invariant (subst (λ n. IsGap node_of_counters peers n place) (sym kept) gap) (omega arith))

pub returns-in-Ok-clause-ok : goal.returns-in-Ok-clause-ok
returns-in-Ok-clause-ok c =
    let peers = c.self.inside.peers.items in
    let place = c.in-Ok.place in
    let peer = c.index_mut.result.now in
    let id = c.args.id in
    let found : IsFound node_of_counters peers id.node place = subst (λ z. IsFound node_of_counters z id.node place) c.deref.ensures.value (subst (λ n. IsFound node_of_counters c.deref.result.now n place) c.node.ensures.value c.in-Ok.ensures) in
    let at : slice_get peers place ≡ Some peer = slice_get_read peers (length peers) place peer refl (slice_get_within peers place found.thing found.at) c.index_mut.ensures.value in
    let node : peer.node ≡ id.node = found_counters peers place id.node peer found at in
    let q = c.add.new.self in
    let a : OpId = id in
    on_ok_weaker c.add.result
    (λ more.
    subst (λ v. IsPermutation (a ∷ v) (flat_map ids_of_peer (set peers place q))) c.self.view_is
    (more_in_part ids_of_peer peers place peer q a at (more_ids peer q id node c.add.ensures.node (subst (λ n. IsPermutation (n ∷ peer.counters) q.counters) c.counter.ensures.value more))))
    c.add.ensures.ok

pub returns-in-Ok-clause-err : goal.returns-in-Ok-clause-err
returns-in-Ok-clause-err c =
    let peers = c.self.inside.peers.items in
    let place = c.in-Ok.place in
    let peer = c.index_mut.result.now in
    let id = c.args.id in
    let found : IsFound node_of_counters peers id.node place = subst (λ z. IsFound node_of_counters z id.node place) c.deref.ensures.value (subst (λ n. IsFound node_of_counters c.deref.result.now n place) c.node.ensures.value c.in-Ok.ensures) in
    let at : slice_get peers place ≡ Some peer = slice_get_read peers (length peers) place peer refl (slice_get_within peers place found.thing found.at) c.index_mut.ensures.value in
    let node : peer.node ≡ id.node = found_counters peers place id.node peer found at in
    on_err_weaker c.add.result
    (λ same. same_part ids_of_peer peers place peer c.add.new.self at (same_ids peer c.add.new.self c.add.ensures.node same) ∙ c.self.view_is)
    c.add.ensures.err

pub returns-in_ok-insert-in-Err-clause-ok : goal.returns-in_ok-insert-in-Err-clause-ok
returns-in_ok-insert-in-Err-clause-ok c =
    let peers = c.self.inside.peers.items in
    let place = c.in-Err.place in
    let id = c.args.id in
    let q = c.add-in-Err.new.self in
    let is_new : c.new-peer.result.node ≡ id.node = c.new-peer.ensures.node ∙ c.node-in-Err.ensures.value in
    let items : c.insert.new.self.items ≡ insert peers place q = search rules in
    let a : OpId = id in
    let more = c.in_ok-add-in-Err.ensures.ok in
    let one : IsPermutation (a ∷ []) (ids_of_peer q) = first_id c.new-peer.result q id is_new c.in_ok-add-in-Err.ensures.node c.new-peer.ensures.counters (subst (λ n. IsPermutation (n ∷ c.new-peer.result.counters) q.counters) c.counter-in-Err.ensures.value more) in
    subst (λ v. IsPermutation (a ∷ v) (flat_map ids_of_peer c.insert.new.self.items)) c.self.view_is
    (subst (λ z. IsPermutation (a ∷ flat_map ids_of_peer peers) (flat_map ids_of_peer z)) (sym items) (inserted_part ids_of_peer peers place q a one))
