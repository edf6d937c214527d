use Rattle.std.proofs.Common.{Some, None, sym, refl, ◌∙◌}
use Rattle.std.specs.Prelude.{nat_eq}
use Rattle.std.specs.Map.{lookup}
use Rattle.char_sequence.proofs.Counters.{restored, apart_nodes, there_still, get_lookup}
use Rattle.char_sequence.proofs.newest.Newest.restore.Goals as goal

pub put_back-requires : goal.put_back-requires
put_back-requires c =
    there_still (lookup (nat_eq c.args.node) c.self.inside.counters.entries)
    (λ none. c.requires (get_lookup c.self.inside.counters.entries c.args.self.now c.self.view_is c.args.node ∙ none))

pub returns-in-Some : goal.returns-in-Some
returns-in-Some c =
    λ before was elsewhere.
    restored c.self.inside.counters.entries c.put_back.new.counters.entries c.args.self.now before c.args.node (Some c.in-Some.before) c.self.view_is
    c.put_back.ensures.here c.put_back.ensures.others (was ∙ c.in-Some.is) elsewhere

pub returns-in-None : goal.returns-in-None
returns-in-None c =
    λ before was elsewhere.
    let u = c.swap_remove.ensures.updates in
    restored c.self.inside.counters.entries c.swap_remove.new.self.entries c.args.self.now before c.args.node None c.self.view_is
    u.1 (λ other apart. u.2 other (apart_nodes c.args.node c.args.node other refl (λ e. apart (sym e)))) (was ∙ c.in-None.is) elsewhere
