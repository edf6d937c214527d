use Rattle.std.proofs.Common.{◌++◌, ◌∷◌, [], true, subst, sym, ap, refl, arith}
use Rattle.change_ops.specs.Operations.{id_of}
use Rattle.change_ops.specs.declared.size.Size.TheVariants.{Large}
use Rattle.char_sequence.specs.Acceptance.{Accepts}
use Rattle.char_sequence.specs.Order.{Shows}
use Rattle.char_sequence.specs.Held.{Holds}
use Rattle.char_sequence.proofs.Hiding.{alone_open}
use Rattle.char_sequence.proofs.Steps.{not_used, marked_size, shown_bytes, revived_held}
use Rattle.char_sequence.proofs.Chunking.{option_at}
use Rattle.removal_runs.specs.Open.{IsOnlyOpen}
use Rattle.change_ops.specs.declared.id.OpId.{OpId}
use Rattle.char_sequence.proofs.Reviving.{known_removal, none_at, shown_stands, text_by_some, text_by_none, revived_whole}
use Rattle.char_sequence.proofs.sequence.Sequence.revive.Goals as goal

pub enter_revival-requires-clause-unused : goal.enter_revival-requires-clause-unused
enter_revival-requires-clause-unused c =
    let ops = c.self.invariant.2.0 in
    let held = c.self.invariant.2.1 in
    let accepted = c.requires.accepted ops (subst (λ v. Holds v ops) c.self.view_is held) in
    (ops, held.newest, not_used ops _ c.in-Revive.id (ap id_of c.in-Revive.is) accepted)

pub enter_revival-requires-clause-known : goal.enter_revival-requires-clause-known
enter_revival-requires-clause-known c =
    let ops = c.self.invariant.2.0 in
    let held = c.self.invariant.2.1 in
    let accepted = c.requires.accepted ops (subst (λ v. Holds v ops) c.self.view_is held) in
    known_removal ops _ _ c.in-Revive.id c.in-Revive.removal c.in-Revive.is held.removals accepted

pub set_visible-requires : goal.set_visible-requires
set_visible-requires c =
    let ops = c.self.invariant.2.0 in
    let held = c.self.invariant.2.1 in
    shown_stands ops _ _ c.in-Revive.removal c.in-Some.target held.shows held.removals (option_at _ (IsOnlyOpen c.self.inside.removals c.in-Revive.removal) c.in_ok-shown.shown c.in-Some.target c.in-Some.is c.in_ok-shown.ensures.shown)

pub invariant_of-self-in-Some : goal.invariant_of-self-in-Some
invariant_of-self-in-Some c =
    let ops = c.self.invariant.2.0 in
    let held = c.self.invariant.2.1 in
    let accepted = c.requires.accepted ops (subst (λ v. Holds v ops) c.self.view_is held) in
    let limit = c.self.invariant.0 in
    let entered = c.in_ok-shown.ensures in
    let target = c.in-Some.target in
    let alone = (option_at _ (IsOnlyOpen c.self.inside.removals c.in-Revive.removal) c.in_ok-shown.shown c.in-Some.target c.in-Some.is c.in_ok-shown.ensures.shown) in
    let marked = c.set_visible.ensures in
    let size = marked_size _ _ target true marked in
    let text = text_by_some ops _ _ _ c.in-Revive.id c.in-Revive.removal target marked alone held.shows held.removals in
    let hides = (alone_open _ ops c.in-Revive.removal target held.removals).1 alone in (
      omega (arith, limit, size),
      shown_bytes _ _ ops c.in-Revive.id c.in-Revive.removal target marked held.shows hides (subst (λ o. Accepts Large ops o) c.in-Revive.is accepted),
      (ops ++ c.args.op.now ∷ [], revived_held _ _ _ _ _ _ c.args.op.now c.in-Revive.id c.in-Revive.removal c.in-Revive.is size entered.noted entered.taken entered.removals ops held accepted text),
    )

pub invariant_of-self-in-None : goal.invariant_of-self-in-None
invariant_of-self-in-None c =
    let ops = c.self.invariant.2.0 in
    let held = c.self.invariant.2.1 in
    let accepted = c.requires.accepted ops (subst (λ v. Holds v ops) c.self.view_is held) in
    let entered = c.in_ok-shown.ensures in
    let text = text_by_none ops _ _ c.in-Revive.id c.in-Revive.removal (none_at ((x : OpId) → IsOnlyOpen c.self.inside.removals c.in-Revive.removal x → ⊥) (IsOnlyOpen c.self.inside.removals c.in-Revive.removal) c.in_ok-shown.shown c.in-None.is c.in_ok-shown.ensures.shown) held.shows held.removals in (
      c.self.invariant.0,
      c.self.invariant.1,
      (ops ++ c.args.op.now ∷ [], revived_held _ _ _ _ _ _ c.args.op.now c.in-Revive.id c.in-Revive.removal c.in-Revive.is refl entered.noted entered.taken entered.removals ops held accepted text),
    )

pub returns-in-Some-clause-held : goal.returns-in-Some-clause-held
returns-in-Some-clause-held c =
    λ ops h.
    let held = subst (λ v. Holds v ops) (sym c.self.view_is) h in
    let entered = c.in_ok-shown.ensures in
    let target = c.in-Some.target in
    let size = marked_size _ _ target true c.set_visible.ensures in
    let text = text_by_some ops _ _ _ c.in-Revive.id c.in-Revive.removal target c.set_visible.ensures (option_at _ (IsOnlyOpen c.self.inside.removals c.in-Revive.removal) c.in_ok-shown.shown c.in-Some.target c.in-Some.is c.in_ok-shown.ensures.shown) held.shows held.removals in
    revived_held _ _ _ _ _ _ c.args.op.now c.in-Revive.id c.in-Revive.removal c.in-Revive.is size entered.noted entered.taken entered.removals ops held (c.requires.accepted ops h) text

pub returns-in-None-clause-held : goal.returns-in-None-clause-held
returns-in-None-clause-held c =
    λ ops h.
    let held = subst (λ v. Holds v ops) (sym c.self.view_is) h in
    let entered = c.in_ok-shown.ensures in
    let text = text_by_none ops _ _ c.in-Revive.id c.in-Revive.removal (none_at ((x : OpId) → IsOnlyOpen c.self.inside.removals c.in-Revive.removal x → ⊥) (IsOnlyOpen c.self.inside.removals c.in-Revive.removal) c.in_ok-shown.shown c.in-None.is c.in_ok-shown.ensures.shown) held.shows held.removals in
    revived_held _ _ _ _ _ _ c.args.op.now c.in-Revive.id c.in-Revive.removal c.in-Revive.is refl entered.noted entered.taken entered.removals ops held (c.requires.accepted ops h) text

pub returns-in-Some-clause-shows : goal.returns-in-Some-clause-shows
returns-in-Some-clause-shows c =
    λ ops part whole h s a.
    let held = subst (λ v. Holds v part) (sym c.self.view_is) h in
    let shows = subst (λ v. Shows v.elements ops) (sym c.self.view_is) s in
    revived_whole ops part _ _ c.args.op.now c.in-Revive.id c.in-Revive.removal c.in-Revive.is whole shows a
    (text_by_some part _ _ _ c.in-Revive.id c.in-Revive.removal c.in-Some.target c.set_visible.ensures (option_at _ (IsOnlyOpen c.self.inside.removals c.in-Revive.removal) c.in_ok-shown.shown c.in-Some.target c.in-Some.is c.in_ok-shown.ensures.shown) held.shows held.removals)

pub returns-in-None-clause-shows : goal.returns-in-None-clause-shows
returns-in-None-clause-shows c =
    λ ops part whole h s a.
    let held = subst (λ v. Holds v part) (sym c.self.view_is) h in
    let shows = subst (λ v. Shows v.elements ops) (sym c.self.view_is) s in
    revived_whole ops part _ _ c.args.op.now c.in-Revive.id c.in-Revive.removal c.in-Revive.is whole shows a
    (text_by_none part _ _ c.in-Revive.id c.in-Revive.removal (none_at ((x : OpId) → IsOnlyOpen c.self.inside.removals c.in-Revive.removal x → ⊥) (IsOnlyOpen c.self.inside.removals c.in-Revive.removal) c.in_ok-shown.shown c.in-None.is c.in_ok-shown.ensures.shown) held.shows held.removals)
