use Rattle.std.proofs.Common.{◌≢◌, refl, Some, Option, subst}
use Rattle.change_ops.specs.declared.refusal.ChangeError.TheVariants.{Truncated}
use Rattle.refusals.specs.declared.reason.ChangeReason.{ChangeReason}
use Rattle.refusals.specs.declared.reason.Reason.TheVariants.{Unread}
use Rattle.hub_commands.specs.ChangesInput.{EndsWith}
use Rattle.hub_commands.proofs.ReadingChanges.{lines_refused}
use Rattle.hub_commands.proofs.changes_input.take_lines.Goals as goal

pub returns-then-not-is_begun-clause-taken : goal.returns-then-not-is_begun-clause-taken
returns-then-not-is_begun-clause-taken c =
    let size = c.args.history.now.size in
    let new = c.take_changes.new.history.changes in
    let rest = c.in_ok-rest.rest.now in
    let reason = c.in-Some.reason in
    let stop : EndsWith size new rest (Some reason) = subst (λ (why : Option ChangeReason). EndsWith size new rest why) c.in-Some.is c.in_ok-rest.ensures.ended in
    let other : reason.reason ≢ Unread Truncated = rw c.if-not-is_begun.true at c.is_begun.ensures in
    (refl, lines_refused size c.args.history.now.changes new c.args.lines.now rest reason c.in_ok-rest.ensures.taken stop other)
