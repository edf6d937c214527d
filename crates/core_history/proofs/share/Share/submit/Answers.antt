use Rattle.std.proofs.Common.{◌≡◌, ◌+◌, OnOk, OnErr, arith, ap, cond, ◌∙◌, subst}
use Rattle.subscriber_queues.specs.Queue.{QueueSink, was_sent, IsFull, closed_end, unsent}
use Rattle.call_history.specs.Calls.{Holds, own_count}
use Rattle.core_history.specs.Runs.{CoreEntry, IsLegal}
use Rattle.core_history.specs.Shares.{is_accepted}
use Rattle.core_history.proofs.Counting.{few_counted, within_core, counts_submitted, accepted_more, refused_same}
use Rattle.core_history.proofs.share.Share.submit.Goals as goal

pub overflow_add-self : goal.overflow_add-self
overflow_add-self g c =
    let legal = IsLegal g.N.Naming.size was_sent IsFull closed_end unsent in
    let extends = c.submit-submitted.ensures.extends in
    let added = c.counted.ensures ∙ ap (λ b. cond b 1 0) c.is_ok.ensures.value in
    omega (arith, few_counted g.N.Naming.size was_sent IsFull closed_end unsent _ _ (counts_submitted legal _ _ _ _ _ _ c.self.invariant extends added) extends.legal)

pub invariant_of-self : goal.invariant_of-self
invariant_of-self g c =
    let legal = IsLegal g.N.Naming.size was_sent IsFull closed_end unsent in
    let added = c.counted.ensures ∙ ap (λ b. cond b 1 0) c.is_ok.ensures.value in
    counts_submitted legal _ _ _ _ _ _ c.self.invariant c.submit-submitted.ensures.extends added

pub returns-clause-ok : goal.returns-clause-ok
returns-clause-ok g c =
    subst (λ (v : Holds (CoreEntry QueueSink)). OnOk c.submit-submitted.result (own_count is_accepted c.submit-submitted.new.me ≡ own_count is_accepted v + 1)) c.self.view_is
    (accepted_more (IsLegal g.N.Naming.size was_sent IsFull closed_end unsent) _ _ _ _ _ c.self.invariant c.submit-submitted.ensures.extends)

pub returns-clause-err : goal.returns-clause-err
returns-clause-err g c =
    subst (λ (v : Holds (CoreEntry QueueSink)). OnErr c.submit-submitted.result (own_count is_accepted c.submit-submitted.new.me ≡ own_count is_accepted v)) c.self.view_is
    (refused_same (IsLegal g.N.Naming.size was_sent IsFull closed_end unsent) _ _ _ _ _ c.self.invariant c.submit-submitted.ensures.extends)

pub returns-clause-within : goal.returns-clause-within
returns-clause-within g c =
    let legal = IsLegal g.N.Naming.size was_sent IsFull closed_end unsent in
    let added = c.counted.ensures ∙ ap (λ b. cond b 1 0) c.is_ok.ensures.value in
    let counts = counts_submitted legal _ _ _ _ _ _ c.self.invariant c.submit-submitted.ensures.extends added in
    within_core g.N.Naming.size was_sent IsFull closed_end unsent _ _ _ counts.own c.submit-submitted.ensures.seen c.core.ensures.run
