use Rattle.std.proofs.Common.{◌≡◌, Some, length, sym, subst, refl}
use Rattle.std.specs.List.{slice_get, Contains}
use Rattle.std.proofs.lemmas.Option.{slice_get_within, slice_get_read}
use Rattle.removal_runs.specs.Apart.{IsFound, IsGap}
use Rattle.removal_runs.specs.IdSets.{node_of_counters}
use Rattle.removal_runs.proofs.IdPeers.{from_counters, in_found_counters, found_counters, in_no_counters}
use Rattle.removal_runs.proofs.ranges.IdRanges.has.Goals as goal

pub returns-in-Ok : goal.returns-in-Ok
returns-in-Ok c =
    let peers = c.self.inside.peers.items in
    let place = c.in-Ok.place in
    let peer = c.index.result.now in
    let id = c.args.id in
    let found : IsFound node_of_counters peers id.node place = subst (λ z. IsFound node_of_counters z id.node place) c.deref.ensures.value (subst (λ n. IsFound node_of_counters c.deref.result.now n place) c.node.ensures.value c.in-Ok.ensures) in
    let at : slice_get peers place ≡ Some peer = slice_get_read peers (length peers) place peer refl (slice_get_within peers place found.thing found.at) c.index.ensures in (
      λ test.
          subst (λ v. Contains v id) c.self.view_is
          (from_counters peers place peer id at (found_counters peers place id.node peer found at) (subst (λ n. Contains peer.counters n) c.counter.ensures.value (c.has.ensures.0 test))),
      λ there.
          c.has.ensures.1
          (subst (λ n. Contains peer.counters n) (sym c.counter.ensures.value) (in_found_counters peers place peer id c.self.invariant found at (subst (λ v. Contains v id) (sym c.self.view_is) there))),
    )

pub returns-in-Err : goal.returns-in-Err
returns-in-Err c =
    let peers = c.self.inside.peers.items in
    let place = c.in-Err.field-0 in
    let id = c.args.id in
    let gap : IsGap node_of_counters peers id.node place = subst (λ z. IsGap node_of_counters z id.node place) c.deref.ensures.value (subst (λ n. IsGap node_of_counters c.deref.result.now n place) c.node.ensures.value c.in-Err.ensures) in (
      λ test. absurd cc,
      λ there. absurd (in_no_counters peers place id gap (subst (λ v. Contains v id) (sym c.self.view_is) there)),
    )
