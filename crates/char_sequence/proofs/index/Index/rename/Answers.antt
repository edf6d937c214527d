use Rattle.std.proofs.Common.{◌≡◌, ℕ, Some, length, sym, ◌∙◌, subst, ap, arith, rules, vec_len}
use Rattle.std.specs.Prelude.{option_copied}
use Rattle.std.specs.Map.{lookup}
use Rattle.char_sequence.specs.Named.{Index, same_node, name_among, name_of}
use Rattle.char_sequence.proofs.Chunking.{here_at}
use Rattle.char_sequence.proofs.Naming.{named_at, named_here, named_others}
use Rattle.char_sequence.proofs.index.Index.rename.Goals as goal

pub index_mut-requires : goal.index_mut-requires
index_mut-requires c =
    let at : lookup (same_node c.args.id.node) c.self.inside.places.entries ≡ Some c.unwrap-place.result.now = ap (λ z. lookup (same_node z) c.self.inside.places.entries) (sym c.node.ensures.value) ∙ sym c.get.ensures.value ∙ ap option_copied c.unwrap-place.ensures in
    let low = c.self.invariant.within c.args.id.node c.unwrap-place.result.now at in
    let size : vec_len c.self.inside.peers ≡ length c.self.inside.peers.items = search rules in
    omega (arith, low, size)

pub rename-requires : goal.rename-requires
rename-requires c =
    λ none.
    let index : Index = record { places = c.self.inside.places.entries; peers = c.self.inside.peers.items } in
    let p = c.index_mut.result.now in
    let place = c.unwrap-place.result.now in
    let at : lookup (same_node c.args.id.node) c.self.inside.places.entries ≡ Some place = ap (λ z. lookup (same_node z) c.self.inside.places.entries) (sym c.node.ensures.value) ∙ sym c.get.ensures.value ∙ ap option_copied c.unwrap-place.ensures in
    let here = here_at c.self.inside.peers.items place p (c.self.invariant.within c.args.id.node place at) c.index_mut.ensures.value in
    c.requires
    (ap (λ v. name_of v c.args.id) (sym c.self.view_is) ∙ named_at index c.args.id place p at here
    ∙ ap (λ z. name_among p.counters p.names z) (sym c.counter.ensures.value) ∙ none)

pub returns-clause-named : goal.returns-clause-named
returns-clause-named c =
    let p = c.index_mut.result.now in
    let q = c.rename.new.self in
    let place = c.unwrap-place.result.now in
    let at : lookup (same_node c.args.id.node) c.self.inside.places.entries ≡ Some place = ap (λ z. lookup (same_node z) c.self.inside.places.entries) (sym c.node.ensures.value) ∙ sym c.get.ensures.value ∙ ap option_copied c.unwrap-place.ensures in
    let here = here_at c.self.inside.peers.items place p (c.self.invariant.within c.args.id.node place at) c.index_mut.ensures.value in
    named_here c.self.inside.places.entries c.self.inside.peers.items place c.args.name p q c.args.id at here
    (subst (λ z. name_among q.counters q.names z ≡ Some c.args.name) c.counter.ensures.value c.rename.ensures.here)

pub returns-clause-kept : goal.returns-clause-kept
returns-clause-kept c =
    λ other apart.
    let p = c.index_mut.result.now in
    let q = c.rename.new.self in
    let place = c.unwrap-place.result.now in
    let at : lookup (same_node c.args.id.node) c.self.inside.places.entries ≡ Some place = ap (λ z. lookup (same_node z) c.self.inside.places.entries) (sym c.node.ensures.value) ∙ sym c.get.ensures.value ∙ ap option_copied c.unwrap-place.ensures in
    let here = here_at c.self.inside.peers.items place p (c.self.invariant.within c.args.id.node place at) c.index_mut.ensures.value in
    named_others c.self.inside.places.entries c.self.inside.peers.items place p q c.args.id c.self.invariant at here
    (subst (λ z. (k : ℕ) → (z ≡ k → ⊥) → name_among q.counters q.names k ≡ name_among p.counters p.names k) c.counter.ensures.value c.rename.ensures.others) other apart
    ∙ ap (λ v. name_of v other) c.self.view_is
