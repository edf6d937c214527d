use Rattle.std.proofs.Common.{◌≡◌, ◌<◌, ◌∙◌, Some, length, refl, sym, ap, subst, arith}
use Rattle.std.proofs.lemmas.Option.{slice_get_read}
use Rattle.std.specs.List.{slice_get}
use Rattle.change_ops.specs.Runs.{Run, inserts_of}
use Rattle.change_ops.specs.declared.operation.Op.TheVariants.{Insert}
use Rattle.change_ops.proofs.RunInserts.{before, insert_of, before_first, before_other}
use Rattle.change_ops.proofs.run.Run.insert.Goals.{in-0, in_default}
use Rattle.change_ops.proofs.run.Run.insert.Goals as goal

pub returns : goal.returns
returns c =
    let id = c.self.inside.id in
    let parent = c.self.inside.parent in
    let cs = c.self.inside.characters.items in
    let here : slice_get cs c.args.index ≡ Some c.index.result.now = slice_get_read cs (length cs) c.args.index c.index.result.now refl (subst (λ (r : Run). c.args.index < length r.characters) (sym c.self.view_is) c.requires) c.index.ensures in
    let before_is : before id parent c.args.index ≡ c.match-index.parent =
    elim c.match-index.branch [
      | in-0 w ↦ before_first id parent c.args.index w.in-0.is ∙ sym w.parent-is
      | in_default w ↦ before_other id parent c.args.index (omega arith) ∙ ap Some (sym w.later.ensures) ∙ sym w.parent-is
    ] in
    let read = insert_of cs id parent c.args.index c.index.result.now here in
    let all : slice_get (inserts_of (record { id = id; parent = parent; characters = cs })) c.args.index ≡ Some (Insert c.later-id.result c.match-index.parent c.index.result.now) =
    read ∙ (λ i. Some (Insert (sym c.later-id.ensures i) (before_is i) c.index.result.now)) in
    subst (λ (r : Run). slice_get (inserts_of r) c.args.index ≡ Some (Insert c.later-id.result c.match-index.parent c.index.result.now)) c.self.view_is all
