use Rattle.std.proofs.Common.{◌≡◌, ◌∷◌, [], List, length, refl, sym, subst, ap, ◌∙◌}
use Rattle.change_ops.specs.Changes.{Change, operations}
use Rattle.change_ops.specs.declared.size.Size.TheVariants.{Large}
use Rattle.change_ops.specs.declared.line.Line.{Line}
use Rattle.change_history.specs.Accepted.{operations_of}
use Rattle.change_history.specs.Kept.{AreAllAccepted}
use Rattle.change_history.proofs.Chronicle.{drafted}
use Rattle.change_history.proofs.Sizes.{follow_large}
use Rattle.change_history.proofs.history.History.draft_admitted.Goals as goal

pub parts_after-requires : goal.parts_after-requires
parts_after-requires c = subst (λ (ls : List Line). AreAllAccepted Large (operations_of c.args.self.now.changes) ls) (sym c.lines.ensures.value) (follow_large (operations_of c.args.self.now.changes) (operations c.args.change) (length (operations c.args.change)) c.requires.accepted.follow)

pub returns-clause-drafted : goal.returns-clause-drafted
returns-clause-drafted c =
    let kept : c.of.result ≡ c.args.change = c.of.ensures c.args.change c.lines.ensures.limits c.requires.spelled in
    drafted c.args.self.now.changes c.args.change c.lines.result.now _ (c.in_ok-added.ensures ∙ ap (λ (change : Change). change ∷ []) kept) refl c.lines.ensures.value c.requires.accepted c.in_ok-parts.ensures.applied
