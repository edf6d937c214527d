use Rattle.std.proofs.Common.{Some, refl, sym, ap, ◌∙◌}
use Rattle.std.specs.Prelude.{nat_eq}
use Rattle.std.specs.Map.{lookup}
use Rattle.char_sequence.proofs.Counters.{get_lookup, newest_noted, used_other, apart_nodes}
use Rattle.char_sequence.proofs.newest.Newest.note.Goals as goal

pub returns-clause-noted : goal.returns-clause-noted
returns-clause-noted c =
    λ ops op is ok.
    let fresh = used_other c.requires.0 ops _ c.args.id c.requires.1 ok c.requires.2 in
    let u = c.in_ok-insert.ensures.updates in
    newest_noted ops op c.args.id c.args.self.now _ is fresh ok
    (get_lookup c.insert.new.self.entries _ refl c.args.id.node ∙ ap (λ k. lookup (nat_eq k) c.insert.new.self.entries) (sym c.node.ensures.value) ∙ u.1 ∙ ap Some c.counter.ensures.value)
    (λ q apart.
    get_lookup c.insert.new.self.entries _ refl q ∙ u.2 q (apart_nodes c.node.result c.args.id.node q c.node.ensures.value apart) ∙ sym (get_lookup c.self.inside.counters.entries c.args.self.now c.self.view_is q))

pub returns-clause-here : goal.returns-clause-here
returns-clause-here c =
    let u = c.in_ok-insert.ensures.updates in
    get_lookup c.insert.new.self.entries _ refl c.args.id.node ∙ ap (λ k. lookup (nat_eq k) c.insert.new.self.entries) (sym c.node.ensures.value) ∙ u.1 ∙ ap Some c.counter.ensures.value

pub returns-clause-others : goal.returns-clause-others
returns-clause-others c =
    λ q apart.
    let u = c.in_ok-insert.ensures.updates in
    get_lookup c.insert.new.self.entries _ refl q ∙ u.2 q (apart_nodes c.node.result c.args.id.node q c.node.ensures.value apart) ∙ sym (get_lookup c.self.inside.counters.entries c.args.self.now c.self.view_is q)
