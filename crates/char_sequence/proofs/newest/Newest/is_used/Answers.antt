use Rattle.std.proofs.Common.{◌≡◌, Some, None, sym, ap, ◌∙◌, arith}
use Rattle.std.specs.Prelude.{nat_eq}
use Rattle.std.specs.Map.{lookup}
use Rattle.std.specs.FinMap.{get}
use Rattle.std.proofs.lemmas.Bool.{false≢true}
use Rattle.char_sequence.proofs.Counters.{get_lookup, used_from, used_to, used_none}
use Rattle.char_sequence.proofs.newest.Newest.is_used.Goals as goal

pub returns-in-Some : goal.returns-in-Some
returns-in-Some c =
    λ ops n.
    let e : get c.args.self.now c.args.id.node ≡ Some c.in-Some.last.now =
    get_lookup c.self.inside.counters.entries c.args.self.now c.self.view_is c.args.id.node ∙ ap (λ k. lookup (nat_eq k) c.self.inside.counters.entries) (sym c.node.ensures.value) ∙ sym c.in-Some.ensures.value
    in
    let same = c.counter.ensures.value in (
      λ t. used_from ops _ n c.args.id c.in-Some.last.now e (grind (arith, t, same)),
      λ u. let le = used_to ops _ n c.args.id c.in-Some.last.now e u in grind (arith, le, same),
    )

pub returns-in-None : goal.returns-in-None
returns-in-None c =
    λ ops n.
    let e : get c.args.self.now c.args.id.node ≡ None =
    get_lookup c.self.inside.counters.entries c.args.self.now c.self.view_is c.args.id.node ∙ ap (λ k. lookup (nat_eq k) c.self.inside.counters.entries) (sym c.node.ensures.value) ∙ sym c.in-None.ensures.value
    in
    (λ t. absurd (false≢true t), λ u. absurd (used_none ops _ n c.args.id e u))
