use Rattle.std.proofs.Common.{◌≡◌, ◌+◌, ◌⊎◌, Some, refl, sym, ap, subst, ◌∙◌}
use Rattle.std.specs.Prelude.{◌↔◌}
use Rattle.std.specs.List.{Contains}
use Rattle.std.proofs.lemmas.Bool.{false≢true}
use Rattle.std.specs.BTreeMap.{get}
use Rattle.change_ops.specs.Ids.{id_cmp}
use Rattle.change_ops.specs.declared.id.OpId.{OpId}
use Rattle.removal_runs.specs.Open.{Removals, Removes, HasOpen, open_count, AreCounted}
use Rattle.removal_runs.proofs.Opening.{added_member, added_first, added_more, counted_too, count_is, same_false}
use Rattle.removal_runs.proofs.removals.Removals.add.Goals as goal

pub add-requires : goal.add-requires
add-requires c = record { fresh = λ r h node. c.requires.fresh r (subst (λ (v : Removals). Contains v.removals r) (c.self.view_is) h) node }

pub add-requires-2 : goal.add-requires-2
add-requires-2 c = record { fresh = λ r h node. c.requires.fresh r (subst (λ (v : Removals). Contains v.removals r) (c.self.view_is) h) node }

pub invariant_of-self-then-not-is_hidden : goal.invariant_of-self-then-not-is_hidden
invariant_of-self-then-not-is_hidden c =
    added_first _ _ c.self.inside.counts c.args.id c.args.target c.self.invariant c.in_ok-add.ensures.ok refl
    (λ r h node. c.requires.fresh r (subst (λ (v : Removals). Contains v.removals r) c.self.view_is h) node)
    (λ h. false≢true (sym c.if-not-is_hidden.true ∙ c.requires.hidden.1 (subst (λ (v : Removals). HasOpen v c.args.target) c.self.view_is h)))

pub returns-then-not-is_hidden-clause-ok : goal.returns-then-not-is_hidden-clause-ok
returns-then-not-is_hidden-clause-ok c =
    λ r x.
    let old : Removals = record { removals = c.self.inside.removals; back = c.self.inside.back } in
    let new : Removals = record { removals = c.add.new.self; back = c.self.inside.back } in
    subst (λ (v : Removals). Removes new r x ↔ (Removes v r x ⊎ ((r ≡ c.args.id) × (x ≡ c.args.target)))) c.self.view_is
    (added_member old new c.self.inside.counts c.args.id c.args.target c.self.invariant c.in_ok-add.ensures.ok refl
    (λ q h node. c.requires.fresh q (subst (λ (v : Removals). Contains v.removals q) c.self.view_is h) node) r x)

pub invariant_of-self-in_err-add-2 : goal.invariant_of-self-in_err-add-2
invariant_of-self-in_err-add-2 c =
    let old : Removals = record { removals = c.self.inside.removals; back = c.self.inside.back } in
    let hidden : HasOpen old c.args.target = subst (λ (v : Removals). HasOpen v c.args.target) (sym c.self.view_is) (c.requires.hidden.0 c.if-not-is_hidden.false) in
    let count : c.count_of-count.result ≡ open_count old c.args.target = c.count_of-count.ensures ∙ count_is old c.args.target (get id_cmp c.self.inside.counts c.args.target) (c.self.invariant.counted c.args.target) hidden in
    let u = c.in_ok-insert.ensures.updates in
    subst (λ rs. AreCounted (record { removals = rs; back = c.self.inside.back }) c.insert.new.self) (sym c.in_err-add-2.ensures.err)
    (counted_too old c.self.inside.counts c.insert.new.self c.args.target c.self.invariant hidden (u.1 ∙ ap Some count) (λ x apart. u.2 x (same_false c.args.target x apart)))

pub invariant_of-self-2 : goal.invariant_of-self-2
invariant_of-self-2 c =
    let old : Removals = record { removals = c.self.inside.removals; back = c.self.inside.back } in
    let new : Removals = record { removals = c.add-2.new.self; back = c.self.inside.back } in
    let hidden : HasOpen old c.args.target = subst (λ (v : Removals). HasOpen v c.args.target) (sym c.self.view_is) (c.requires.hidden.0 c.if-not-is_hidden.false) in
    let count : c.count_of-count.result ≡ open_count old c.args.target = c.count_of-count.ensures ∙ count_is old c.args.target (get id_cmp c.self.inside.counts c.args.target) (c.self.invariant.counted c.args.target) hidden in
    let u = c.in_ok-insert.ensures.updates in
    added_more old new c.self.inside.counts c.args.id c.args.target c.self.invariant c.in_ok-add-2.ensures.ok refl
    (λ r h node. c.requires.fresh r (subst (λ (v : Removals). Contains v.removals r) c.self.view_is h) node)
    c.set_count.new.counts
    (c.set_count.ensures.here ∙ ap Some (c.in_ok-more.ensures ∙ ap (λ n. n + 1) count))
    (λ x apart. c.set_count.ensures.others x apart ∙ u.2 x (same_false c.args.target x apart))

pub returns-clause-ok : goal.returns-clause-ok
returns-clause-ok c =
    λ r x.
    let old : Removals = record { removals = c.self.inside.removals; back = c.self.inside.back } in
    let new : Removals = record { removals = c.add-2.new.self; back = c.self.inside.back } in
    subst (λ (v : Removals). Removes new r x ↔ (Removes v r x ⊎ ((r ≡ c.args.id) × (x ≡ c.args.target)))) c.self.view_is
    (added_member old new c.self.inside.counts c.args.id c.args.target c.self.invariant c.in_ok-add-2.ensures.ok refl
    (λ q h node. c.requires.fresh q (subst (λ (v : Removals). Contains v.removals q) c.self.view_is h) node) r x)
