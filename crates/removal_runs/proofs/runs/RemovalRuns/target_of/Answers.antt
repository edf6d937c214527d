use Rattle.std.proofs.Common.{◌≡◌, Some, length, sym, subst, refl}
use Rattle.std.specs.List.{slice_get, Contains}
use Rattle.std.specs.Option.{IfSome, MatchOption}
use Rattle.std.proofs.lemmas.Option.{slice_get_within, slice_get_read}
use Rattle.change_ops.specs.declared.id.OpId.{OpId}
use Rattle.removal_runs.specs.Apart.{IsFound, IsGap}
use Rattle.removal_runs.specs.Removals.{node_of_peer}
use Rattle.removal_runs.proofs.Peers.{found_target, in_found_peer, in_no_peer}
use Rattle.removal_runs.proofs.runs.RemovalRuns.target_of.Goals as goal

pub returns-in-Ok-clause-cases : goal.returns-in-Ok-clause-cases
returns-in-Ok-clause-cases c =
    let peers = c.self.inside.peers.items in
    let place = c.in-Ok.place in
    let peer = c.index.result.now in
    let id = c.args.removal in
    let found : IsFound node_of_peer peers id.node place = subst (λ z. IsFound node_of_peer z id.node place) c.deref.ensures.value (subst (λ n. IsFound node_of_peer c.deref.result.now n place) c.node.ensures.value c.in-Ok.ensures) in
    let at : slice_get peers place ≡ Some peer = slice_get_read peers (length peers) place peer refl (slice_get_within peers place found.thing found.at) c.index.ensures in
    let is = subst (λ n. IfSome c.target_of.result (λ x. Contains peer.removals (record { counter = n; target = x }))) c.counter.ensures.value c.target_of.ensures.found in
    let only = subst (λ n. (x : OpId) → Contains peer.removals (record { counter = n; target = x }) → c.target_of.result ≡ Some x) c.counter.ensures.value c.target_of.ensures.only in
    subst (λ v. MatchOption c.target_of.result ((x : OpId) → Contains v (record { id = id; target = x }) → ⊥) (λ x. Contains v (record { id = id; target = x }))) c.self.view_is
    (found_target peers place peer id c.target_of.result c.self.invariant found at is only)

pub returns-in-Ok-clause-only : goal.returns-in-Ok-clause-only
returns-in-Ok-clause-only c =
    λ x has.
    let peers = c.self.inside.peers.items in
    let place = c.in-Ok.place in
    let peer = c.index.result.now in
    let id = c.args.removal in
    let found : IsFound node_of_peer peers id.node place = subst (λ z. IsFound node_of_peer z id.node place) c.deref.ensures.value (subst (λ n. IsFound node_of_peer c.deref.result.now n place) c.node.ensures.value c.in-Ok.ensures) in
    let at : slice_get peers place ≡ Some peer = slice_get_read peers (length peers) place peer refl (slice_get_within peers place found.thing found.at) c.index.ensures in
    let only = subst (λ n. (x : OpId) → Contains peer.removals (record { counter = n; target = x }) → c.target_of.result ≡ Some x) c.counter.ensures.value c.target_of.ensures.only in
    only x (in_found_peer peers place peer id x c.self.invariant found at (subst (λ v. Contains v (record { id = id; target = x })) (sym c.self.view_is) has))

pub returns-in-Err-clause-cases : goal.returns-in-Err-clause-cases
returns-in-Err-clause-cases c =
    λ x has.
    let peers = c.self.inside.peers.items in
    let place = c.in-Err.field-0 in
    let id = c.args.removal in
    let gap : IsGap node_of_peer peers id.node place = subst (λ z. IsGap node_of_peer z id.node place) c.deref.ensures.value (subst (λ n. IsGap node_of_peer c.deref.result.now n place) c.node.ensures.value c.in-Err.ensures) in
    (in_no_peer peers place id x gap (subst (λ v. Contains v (record { id = id; target = x })) (sym c.self.view_is) has))

pub returns-in-Err-clause-only : goal.returns-in-Err-clause-only
returns-in-Err-clause-only c =
    λ x has.
    let peers = c.self.inside.peers.items in
    let place = c.in-Err.field-0 in
    let id = c.args.removal in
    let gap : IsGap node_of_peer peers id.node place = subst (λ z. IsGap node_of_peer z id.node place) c.deref.ensures.value (subst (λ n. IsGap node_of_peer c.deref.result.now n place) c.node.ensures.value c.in-Err.ensures) in
    absurd (in_no_peer peers place id x gap (subst (λ v. Contains v (record { id = id; target = x })) (sym c.self.view_is) has))
