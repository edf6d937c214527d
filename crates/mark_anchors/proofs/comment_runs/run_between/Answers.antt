use Rattle.std.proofs.Common.{◌≡◌, ◌<◌, ◌≤◌, length, refl, sym, ◌∙◌, true, arith}
use Rattle.std.proofs.lemmas.Bool.{false≢true}
use Rattle.std.proofs.lemmas.Option.{slice_get_within}
use Rattle.change_ops.specs.declared.attribute.Key.TheVariants as key
use Rattle.change_ops.specs.declared.attribute.Attribute.TheVariants.{Comment}
use Rattle.mark_anchors.proofs.Lists.{item_at}
use Rattle.mark_anchors.proofs.Stretching.{bears_still}
use Rattle.mark_anchors.proofs.KeyValues.{one_comment}
use Rattle.mark_anchors.proofs.comment_runs.run_between.Goals as goal

pub returns-then-not-holds_at-clause-along : goal.returns-then-not-holds_at-clause-along
returns-then-not-holds_at-clause-along c =
    λ es ops p e h are placed still low high at.
    let n = c.args.comment.now.number in
    let within : p < length es = slice_get_within es p at.0 at.1 in
    let begun : c.args.from ≤ p = low in
    let first = item_at es c.args.from (omega arith) in
    let held = c.holds_at.ensures es ops (Comment n) first.0.id (one_comment n) h are placed (first.0, first.1, refl) in
    let same = bears_still ops es c.args.operations.now c.args.comment.now.marks (key.Comment n) c.args.from c.args.to p first.0.id e h are placed still (first.0, first.1, refl) at begun high (Comment n) refl in
    (λ t. absurd (false≢true t), λ b. let holds : c.holds_at.result ≡ true = held.1 (same.1 b) in absurd (false≢true (sym c.if-not-holds_at.true ∙ holds)))

pub returns-clause-along : goal.returns-clause-along
returns-clause-along c =
    λ es ops p e h are placed still low high at.
    let n = c.args.comment.now.number in
    let within : p < length es = slice_get_within es p at.0 at.1 in
    let begun : c.args.from ≤ p = low in
    let first = item_at es c.args.from (omega arith) in
    let held = c.holds_at.ensures es ops (Comment n) first.0.id (one_comment n) h are placed (first.0, first.1, refl) in
    let same = bears_still ops es c.args.operations.now c.args.comment.now.marks (key.Comment n) c.args.from c.args.to p first.0.id e h are placed still (first.0, first.1, refl) at begun high (Comment n) refl in
    (λ t. same.0 (held.0 c.if-not-holds_at.false), λ b. refl)
