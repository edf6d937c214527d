use Rattle.std.proofs.Common.{◌≢◌, ◌∙◌, [], sym, ap, subst}
use Rattle.change_ops.specs.declared.size.Size.{Size}
use Rattle.change_history.specs.Chronicle.{Chronicle}
use Rattle.hub_commands.specs.Stopping.{StopsAt, Takes}
use Rattle.hub_commands.proofs.Accepting.{not_empty}
use Rattle.hub_commands.proofs.ReadingChanges.{advances_more, stopped_there}
use Rattle.hub_commands.proofs.changes_input.take_changes.Goals as goal

pub loop-alloc-preserved : goal.loop-alloc-preserved
loop-alloc-preserved c = record {
  text = c.in-Ok.ensures.text;
  taken = advances_more c.args.history.now.size c.args.history.now.changes c.loop-alloc.history.changes c.take_change.new.history.changes c.args.text.now c.loop-alloc.rest.now c.in-Ok.behind.now c.loop-alloc.invariant.taken
      (subst (λ (size : Size). Takes size c.loop-alloc.history.changes c.loop-alloc.rest.now c.take_change.new.history.changes c.in-Ok.behind.now) c.loop-alloc.invariant.size c.in-Ok.ensures.taken)
      c.loop-alloc.invariant.text c.in-Ok.ensures.text;
  size = c.in-Ok.ensures.size ∙ c.loop-alloc.invariant.size;
}

pub returns-in-Err-Refused-clause-ended : goal.returns-in-Err-Refused-clause-ended
returns-in-Err-Refused-clause-ended c =
    let more : c.loop-alloc.rest.now ≢ [] = not_empty c.loop-alloc.rest.now (sym c.is_empty.ensures ∙ c.loop-alloc-test.true) in
    let there : StopsAt c.args.history.now.size c.loop-alloc.history.changes c.loop-alloc.rest.now c.in-Err-Refused.field-0 =
    subst (λ (size : Size). StopsAt size c.loop-alloc.history.changes c.loop-alloc.rest.now c.in-Err-Refused.field-0) c.loop-alloc.invariant.size c.in-Err-Refused.ensures.taken in
    rw c.in-Err-Refused.reason-is (stopped_there c.args.history.now.size c.loop-alloc.history.changes c.take_change.new.history.changes c.loop-alloc.rest.now c.in-Err-Refused.field-0
    c.in-Err-Refused.reason c.in-Err-Refused.field-0-is more (ap (λ (h : Chronicle). h.changes) c.in-Err-Refused.ensures.unchanged) there)
