use Rattle.std.proofs.Common.{subst, sym}
use Rattle.semantics.specs.Step.{Program}
use Rattle.version_history.specs.Tokens.{Token}
use Rattle.hub_core.specs.declared.run.Event.{Event}
use Rattle.hub_core.specs.Runs.{Happens}
use Rattle.hub_core.proofs.run.run_event.Goals as goal

pub returns-in-TakeJob-clause-happens : goal.returns-in-TakeJob-clause-happens
returns-in-TakeJob-clause-happens g c =
    subst (λ (e : Event (Token Program) g.row.S.Denot). Happens g.S.Sink.sent g.S.Sink.full g.S.Sink.closed g.S.Sink.bare c.args.core.now c.args.jobs.now.items e c.take_job.result c.take_job.new.core)
    (sym c.in-TakeJob.is) (c.take_job.ensures.happens c.args.jobs.now.items)
