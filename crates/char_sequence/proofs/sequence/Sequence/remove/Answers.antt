use Rattle.std.proofs.Common.{◌≡◌, ℕ, false, Some, ◌++◌, ◌∷◌, [], subst, sym, ap, refl, arith}
use Rattle.std.specs.List.{slice_get}
use Rattle.change_ops.specs.Operations.{id_of, Names}
use Rattle.char_sequence.specs.Order.{Shows}
use Rattle.char_sequence.specs.Held.{Holds}
use Rattle.char_sequence.proofs.Steps.{stands, not_used, hidden_text, marked_size, hidden_bytes, removed_held, removed_shows}
use Rattle.char_sequence.proofs.Reviving.{above_removals, hidden_iff, found_some}
use Rattle.char_sequence.proofs.Chunking.{option_at}
use Rattle.char_sequence.specs.Index.{HasId}
use Rattle.char_sequence.specs.Chunks.{joined}
use Rattle.char_sequence.specs.declared.sequence.Element.{Element}
use Rattle.char_sequence.proofs.sequence.Sequence.remove.Goals as goal

pub set_visible-requires : goal.set_visible-requires
set_visible-requires c =
    let ops = c.self.invariant.2.0 in
    let held = c.self.invariant.2.1 in
    let accepted = c.requires.accepted ops (subst (λ v. Holds v ops) c.self.view_is held) in
    stands ops _ held.shows.text _ (accepted.known c.in-Remove.target (subst (λ o. Names o c.in-Remove.target) (sym c.in-Remove.is) refl))

pub enter_removal-requires-clause-unused : goal.enter_removal-requires-clause-unused
enter_removal-requires-clause-unused c =
    let ops = c.self.invariant.2.0 in
    let held = c.self.invariant.2.1 in
    let accepted = c.requires.accepted ops (subst (λ v. Holds v ops) c.self.view_is held) in
    (ops, held.newest, not_used ops _ c.in-Remove.id (ap id_of c.in-Remove.is) accepted)

pub enter_removal-requires-clause-fresh : goal.enter_removal-requires-clause-fresh
enter_removal-requires-clause-fresh c =
    let ops = c.self.invariant.2.0 in
    let held = c.self.invariant.2.1 in
    let accepted = c.requires.accepted ops (subst (λ v. Holds v ops) c.self.view_is held) in
    above_removals ops _ _ c.in-Remove.id (ap id_of c.in-Remove.is) held.removals accepted

pub unwrap-element-requires : goal.unwrap-element-requires
unwrap-element-requires c =
    let ops = c.self.invariant.2.0 in
    let held = c.self.invariant.2.1 in
    let accepted = c.requires.accepted ops (subst (λ v. Holds v ops) c.self.view_is held) in
    let there = stands ops _ held.shows.text _ (accepted.known c.in-Remove.target (subst (λ o. Names o c.in-Remove.target) (sym c.in-Remove.is) refl)) in
    found_some (HasId (joined c.self.inside.elements.chunks) c.in-Remove.target) (λ (e : Element). (k : ℕ) × (slice_get (joined c.self.inside.elements.chunks) k ≡ Some e) × (e.id ≡ c.in-Remove.target)) c.element_of.result c.element_of.ensures there

pub enter_removal-requires-clause-hidden : goal.enter_removal-requires-clause-hidden
enter_removal-requires-clause-hidden c =
    let ops = c.self.invariant.2.0 in
    let held = c.self.invariant.2.1 in
    let here = option_at _ (λ (e : Element). (k : ℕ) × (slice_get (joined c.self.inside.elements.chunks) k ≡ Some e) × (e.id ≡ c.in-Remove.target)) c.element_of.result c.unwrap-element.result c.unwrap-element.ensures c.element_of.ensures in
    hidden_iff ops _ _ c.in-Remove.target c.unwrap-element.result _ held.shows.text held.removals here refl

pub invariant_of-self-2 : goal.invariant_of-self-2
invariant_of-self-2 c =
    let ops = c.self.invariant.2.0 in
    let held = c.self.invariant.2.1 in
    let accepted = c.requires.accepted ops (subst (λ v. Holds v ops) c.self.view_is held) in
    let limit = c.self.invariant.0 in
    let most = c.self.invariant.1 in
    let entered = c.in_ok-enter_removal.ensures in
    let bytes = hidden_bytes _ _ c.in-Remove.target c.set_visible.ensures in
    let size = marked_size _ _ c.in-Remove.target false c.set_visible.ensures in (
      omega (arith, limit, size),
      omega (arith, most, bytes),
      (ops ++ c.args.op.now ∷ [], removed_held _ _ _ _ _ _ c.args.op.now c.in-Remove.id c.in-Remove.target c.in-Remove.is (hidden_text _ _ c.in-Remove.target c.set_visible.ensures) size entered.noted entered.added entered.back ops held accepted),
    )

pub returns-clause-held : goal.returns-clause-held
returns-clause-held c =
    λ ops h.
    let entered = c.in_ok-enter_removal.ensures in
    let size = marked_size _ _ c.in-Remove.target false c.set_visible.ensures in
    removed_held _ _ _ _ _ _ c.args.op.now c.in-Remove.id c.in-Remove.target c.in-Remove.is (hidden_text _ _ c.in-Remove.target c.set_visible.ensures) size entered.noted entered.added entered.back ops (subst (λ v. Holds v ops) (sym c.self.view_is) h) (c.requires.accepted ops h)

pub returns-clause-shows : goal.returns-clause-shows
returns-clause-shows c =
    λ ops h a.
    removed_shows _ _ c.args.op.now c.in-Remove.id c.in-Remove.target c.in-Remove.is (hidden_text _ _ c.in-Remove.target c.set_visible.ensures) ops (subst (λ v. Shows v.elements ops) (sym c.self.view_is) h) a
