use Rattle.std.proofs.Common.{refl}
use Rattle.replica.proofs.Soundness.{nothing_risen, is_message}
use Rattle.replica.proofs.message.Message.new.Goals as goal

pub returns-then-last-previous : goal.returns-then-last-previous
returns-then-last-previous c = nothing_risen c.args.previous c.in_ok-last.last c.args.change c.lines.result.now c.lines.ensures.value c.in_ok-last.ensures c.if-last-previous.true

pub invariant_of-result : goal.invariant_of-result
invariant_of-result c = is_message c.args.previous c.in_ok-last.last c.args.change c.lines.result.now c.lines.ensures.value c.lines.ensures.limits c.in_ok-last.ensures c.if-last-previous.false

pub returns : goal.returns
returns c =
    let is = is_message c.args.previous c.in_ok-last.last c.args.change c.lines.result.now c.lines.ensures.value c.lines.ensures.limits c.in_ok-last.ensures c.if-last-previous.false in
    (refl, is.sound)
