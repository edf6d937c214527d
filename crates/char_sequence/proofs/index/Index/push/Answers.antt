use Rattle.std.proofs.Common.{◌≡◌, ℕ, ◌+◌, ◌<◌, ◌≤◌, Some, sym, ◌∙◌, subst, ap, refl, arith}
use Rattle.std.proofs.lemmas.Option.{same_Some, slice_get_within}
use Rattle.change_ops.specs.declared.id.OpId.{OpId}
use Rattle.char_sequence.specs.Named.{Index, IsPeerPlace, name_among, name_of}
use Rattle.char_sequence.proofs.Chunking.{here_at}
use Rattle.char_sequence.proofs.Lists.{slice_get_set_same}
use Rattle.char_sequence.proofs.Naming.{named_at, named_here, named_others}
use Rattle.char_sequence.proofs.index.Index.push.Goals as goal

pub push-requires-clause-above : goal.push-requires-clause-above
push-requires-clause-above c =
    λ k some.
    let index : Index = record { places = c.self.inside.places.entries; peers = c.self.inside.peers.items } in
    let other : OpId = record { counter = k; node = c.args.id.node } in
    let room = subst (λ v. IsPeerPlace v c.args.id.node 1 c.args.place) (sym c.self.view_is) c.requires.room in
    let here = here_at c.self.inside.peers.items c.args.place c.index_mut.result.now (slice_get_within _ _ room.peer room.here) c.index_mut.ensures.value in
    let less = c.requires.above other refl (λ none. some (sym (named_at index other c.args.place c.index_mut.result.now room.at here) ∙ ap (λ v. name_of v other) c.self.view_is ∙ none)) in
    subst (λ z. k < z) (sym c.counter.ensures.value) less

pub returns-clause-named : goal.returns-clause-named
returns-clause-named c =
    let q = c.push.new.self in
    let room = subst (λ v. IsPeerPlace v c.args.id.node 1 c.args.place) (sym c.self.view_is) c.requires.room in
    named_here c.self.inside.places.entries c.self.inside.peers.items c.args.place c.args.name room.peer q c.args.id room.at room.here
    (subst (λ z. name_among q.counters q.names z ≡ Some c.args.name) c.counter.ensures.value c.push.ensures.here)

pub returns-clause-kept : goal.returns-clause-kept
returns-clause-kept c =
    λ other apart.
    let p = c.index_mut.result.now in
    let q = c.push.new.self in
    let room = subst (λ v. IsPeerPlace v c.args.id.node 1 c.args.place) (sym c.self.view_is) c.requires.room in
    let here = here_at c.self.inside.peers.items c.args.place p (slice_get_within _ _ room.peer room.here) c.index_mut.ensures.value in
    named_others c.self.inside.places.entries c.self.inside.peers.items c.args.place p q c.args.id c.self.invariant room.at here
    (subst (λ z. (k : ℕ) → (z ≡ k → ⊥) → name_among q.counters q.names k ≡ name_among p.counters p.names k) c.counter.ensures.value c.push.ensures.others) other apart
    ∙ ap (λ v. name_of v other) c.self.view_is

pub returns-clause-room : goal.returns-clause-room
returns-clause-room c =
    λ count given.
    let room = subst (λ v. IsPeerPlace v c.args.id.node (count + 1) c.args.place) (sym c.self.view_is) given in
    let low = slice_get_within c.self.inside.peers.items c.args.place room.peer room.here in
    let here = here_at c.self.inside.peers.items c.args.place c.index_mut.result.now low c.index_mut.ensures.value in
    let same : room.peer ≡ c.index_mut.result.now = same_Some room.peer _ (sym room.here ∙ here) in
    let enough : count + 1 ≤ c.index_mut.result.now.room = subst (λ z. count + 1 ≤ z.room) same room.room in
    let left = c.push.ensures.room in
    record {
      at = room.at;
      peer = c.push.new.self;
      here = slice_get_set_same c.self.inside.peers.items c.args.place c.push.new.self low;
      room = omega (arith, enough, left);
    }
