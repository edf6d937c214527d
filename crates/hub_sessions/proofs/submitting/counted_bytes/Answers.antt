use Rattle.std.specs.Prelude.{length}
use Rattle.change_ops.specs.Spelling.{change_text}
use Rattle.hub_sessions.proofs.Admitting.{uncounted, uncounted_after}
use Rattle.hub_sessions.proofs.submitting.counted_bytes.Goals as goal

pub returns-in-None-clause-takes : goal.returns-in-None-clause-takes
returns-in-None-clause-takes c =
    uncounted c.args.left 0 (length (change_text c.args.change.now)) c.in-None.is

pub returns-in-None-clause-after : goal.returns-in-None-clause-after
returns-in-None-clause-after c =
    uncounted_after c.args.left 0 (length (change_text c.args.change.now)) c.in-None.is
