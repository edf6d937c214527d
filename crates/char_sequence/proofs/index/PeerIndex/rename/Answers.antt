use Rattle.std.proofs.Common.{◌≡◌, None, length, sym, ◌∙◌, subst, ap, arith, rules, vec_len}
use Rattle.std.proofs.lemmas.Option.{slice_get_within}
use Rattle.char_sequence.specs.Named.{name_among}
use Rattle.char_sequence.proofs.Naming.{some_place, place_at, set_here, set_other}
use Rattle.char_sequence.proofs.index.PeerIndex.rename.Goals as goal

pub unwrap-place-requires : goal.unwrap-place-requires
unwrap-place-requires c =
    some_place _ _ _ c.args.counter _ c.self.invariant c.deref.ensures.value (subst (λ v. name_among v.counters v.names c.args.counter ≡ None → ⊥) (sym c.self.view_is) c.requires) c.place_among.ensures

pub index_mut-requires : goal.index_mut-requires
index_mut-requires c =
    let at = place_at _ _ _ c.args.counter c.unwrap-place.result _ c.self.invariant c.deref.ensures.value c.unwrap-place.ensures c.place_among.ensures in
    let low = slice_get_within c.self.inside.counters.items c.unwrap-place.result c.args.counter at in
    let counted = c.self.invariant.counted in
    let size : vec_len c.self.inside.names ≡ length c.self.inside.names.items = search rules in
    omega (arith, low, counted, size)

pub returns-clause-here : goal.returns-clause-here
returns-clause-here c =
    let at = place_at _ _ _ c.args.counter c.unwrap-place.result _ c.self.invariant c.deref.ensures.value c.unwrap-place.ensures c.place_among.ensures in
    set_here c.self.inside.counters.items c.self.inside.names.items c.unwrap-place.result c.args.counter c.args.name c.self.invariant at

pub returns-clause-others : goal.returns-clause-others
returns-clause-others c =
    λ q off.
    let at = place_at _ _ _ c.args.counter c.unwrap-place.result _ c.self.invariant c.deref.ensures.value c.unwrap-place.ensures c.place_among.ensures in
    set_other c.self.inside.counters.items c.self.inside.names.items c.unwrap-place.result c.args.counter c.args.name q at off ∙ ap (λ v. name_among v.counters v.names q) c.self.view_is
