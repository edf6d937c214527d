use Rattle.std.proofs.Common.{◌∙◌, inr, sym, subst}
use Rattle.subscriber_queues.specs.Queue.{was_sent, IsFull, closed_end, unsent}
use Rattle.core_history.specs.Runs.{IsLegal}
use Rattle.core_history.specs.Lawful.{IsLawful}
use Rattle.core_history.proofs.Recording.{takes_in_by}
use Rattle.core_history.proofs.recorded_core.RecordedCore.take_in.Goals as goal

pub returns-clause-me : goal.returns-clause-me
returns-clause-me g c =
    let legal = IsLegal g.N.Naming.size was_sent IsFull closed_end unsent in
    takes_in_by IsLawful legal _ _ _ c.take_in.ensures.me (subst legal (sym (c.take_in.ensures.seen ∙ c.take_in.ensures.same)) (inr (_, c.self.invariant)))
