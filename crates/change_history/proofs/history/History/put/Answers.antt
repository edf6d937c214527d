use Rattle.std.proofs.Common.{◌≡◌, ◌<◌, ◌++◌, ◌∷◌, [], List, Some, length, arith, ap, refl, sym, subst}
use Rattle.change_ops.specs.Changes.{Change}
use Rattle.change_ops.specs.Sizes.{most_changes}
use Rattle.change_ops.specs.declared.size.Size.{Size}
use Rattle.change_history.specs.Chronicle.{Chronicle}
use Rattle.change_history.specs.Kept.{IsDraft, IsSpare}
use Rattle.change_history.proofs.Chronicle.{put_appended, history_put, spare_after, last_after}
use Rattle.change_history.proofs.Sizes.{most_changes-large}
use Rattle.change_history.proofs.history.History.put.Goals as goal

pub unwrap-requires : goal.unwrap-requires
unwrap-requires c =
    let draft = c.requires.1 in
    let room : length c.args.self.now.changes < most_changes c.args.self.now.size = draft.accepted.room in
    let most = most_changes-large c.args.self.now.size in
    c.append.ensures.succeeds (omega (arith, room, most, ap (λ (h : Chronicle). length h.changes) c.self.view_is, ap (λ (cs : List Change). length cs) draft.added))

pub invariant_of-self : goal.invariant_of-self
invariant_of-self c =
    let change = c.requires.0 in
    let before = c.self.inside.changes in
    let draft : IsDraft c.self.inside.size before change c.args.draft = subst (λ (h : Chronicle). IsDraft h.size h.changes change c.args.draft) (sym c.self.view_is) c.requires.1 in
    let grown : c.append.new.self ≡ before ++ change ∷ [] = put_appended c.append.result c.unwrap.result before before c.args.draft.added c.append.new.self change refl draft.added c.unwrap.ensures c.append.ensures.items in (
      history_put before c.append.new.self change c.self.inside.parts c.replace.new.dest c.args.draft c.self.invariant.0 draft grown c.replace.ensures.after,
      subst (λ (cs : List Change). IsSpare cs (Some c.replace.result)) (sym grown)
          (spare_after before change c.self.inside.parts (Some c.replace.result) c.self.invariant.0 (ap Some c.replace.ensures.value)),
      last_after before c.append.new.self change (Some c.args.draft.change) grown (ap Some draft.of),
    )

pub returns : goal.returns
returns c = λ change draft.
    let grown = put_appended c.append.result c.unwrap.result c.self.inside.changes c.args.self.now.changes c.args.draft.added c.append.new.self change (ap (λ (h : Chronicle). h.changes) c.self.view_is) draft.added c.unwrap.ensures c.append.ensures.items in
    let mk : Size → List Change → Chronicle = λ s cs. record { size = s; changes = cs } in
    λ i. mk ((ap (λ (h : Chronicle). h.size) c.self.view_is) i) (grown i)
