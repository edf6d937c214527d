use Rattle.std.proofs.Common.{◌≡◌, Some, length, sym, ◌∙◌, subst, ap, arith, rules, vec_len}
use Rattle.std.specs.List.{slice_get}
use Rattle.std.specs.Map.{lookup}
use Rattle.char_sequence.specs.Named.{same_node, name_among, name_of}
use Rattle.char_sequence.proofs.Chunking.{here_at}
use Rattle.char_sequence.proofs.Naming.{named_at}
use Rattle.char_sequence.proofs.index.Index.name_of.Goals as goal

pub index-requires : goal.index-requires
index-requires c =
    let at : lookup (same_node c.args.id.node) c.self.inside.places.entries ≡ Some c.in-Some.place.now = ap (λ z. lookup (same_node z) c.self.inside.places.entries) (sym c.node.ensures.value) ∙ sym c.in-Some.ensures.value in
    let low = c.self.invariant.within c.args.id.node c.in-Some.place.now at in
    let size : vec_len c.self.inside.peers ≡ length c.self.inside.peers.items = search rules in
    omega (arith, low, size)

pub returns-in-Some : goal.returns-in-Some
returns-in-Some c =
    let p = c.index.result.now in
    let place = c.in-Some.place.now in
    let at : lookup (same_node c.args.id.node) c.self.inside.places.entries ≡ Some place = ap (λ z. lookup (same_node z) c.self.inside.places.entries) (sym c.node.ensures.value) ∙ sym c.in-Some.ensures.value in
    let here : slice_get c.self.inside.peers.items place ≡ Some p = here_at c.self.inside.peers.items place p (c.self.invariant.within c.args.id.node place at) c.index.ensures in
    subst (λ v. c.name_of.result ≡ name_of v c.args.id) c.self.view_is
    (c.name_of.ensures ∙ ap (λ z. name_among p.counters p.names z) c.counter.ensures.value
    ∙ sym (named_at (record { places = c.self.inside.places.entries; peers = c.self.inside.peers.items }) c.args.id place p at here))
