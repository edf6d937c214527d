use Rattle.std.proofs.Common.{◌≡◌, ◌++◌, ◌∷◌, [], length, sym, ◌∙◌, subst, ap, rules}
use Rattle.char_sequence.specs.Named.{HasPlaces, name_of}
use Rattle.char_sequence.proofs.Naming.{places_more, names_more}
use Rattle.char_sequence.proofs.index.Index.place_for.Goals as goal

pub invariant_of-self-2 : goal.invariant_of-self-2
invariant_of-self-2 c =
    let peers : c.push_reserved.new.self.items ≡ c.self.inside.peers.items ++ c.new.result ∷ [] = search rules in
    let last : c.len-place.result ≡ length c.self.inside.peers.items = search rules in
    subst (λ z. HasPlaces c.insert.new.self.entries z) (sym peers)
    (places_more _ _ _ c.args.node c.len-place.result c.new.result c.self.invariant last c.in_ok-insert.ensures.updates.1 c.in_ok-insert.ensures.updates.2)

pub returns-clause-same : goal.returns-clause-same
returns-clause-same c =
    λ id.
    let peers : c.push_reserved.new.self.items ≡ c.self.inside.peers.items ++ c.new.result ∷ [] = search rules in
    let last : c.len-place.result ≡ length c.self.inside.peers.items = search rules in
    ap (λ z. name_of (record { places = c.insert.new.self.entries; peers = z }) id) peers
    ∙ names_more _ _ _ c.args.node c.len-place.result c.new.result c.self.invariant last (sym c.in_default.ensures.value) c.in_ok-insert.ensures.updates.1 c.in_ok-insert.ensures.updates.2 c.new.ensures.counters id
    ∙ ap (λ v. name_of v id) c.self.view_is
